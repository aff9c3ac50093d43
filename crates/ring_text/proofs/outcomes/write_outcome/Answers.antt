use Rattle.std.proofs.Common.{◌≡◌, length, arith}
use Rattle.std.proofs.lemmas.Result.{err_from_is_err_and}
use Rattle.ring_text.specs.SavedOf.{saved_of}
use Rattle.saved_history.proofs.TextParts.{first_done, first_fault, blocks_done, blocks_fault, done_done, done_fault}
use Rattle.ring_text.proofs.Fitting.{text_fits}
use Rattle.ring_text.proofs.outcomes.write_outcome.Goals as goal

pub returns-in_err-put_first_line-clause-written : goal.returns-in_err-put_first_line-clause-written
returns-in_err-put_first_line-clause-written g c =
    let p = err_from_is_err_and c.from_residual.result c.from_residual.ensures.1 in
    rw p.1 (first_fault (saved_of c.args.outcome.now) _ _ p.0 c.in_err-put_first_line.ensures)

pub returns-in_err-put_blocks-clause-written : goal.returns-in_err-put_blocks-clause-written
returns-in_err-put_blocks-clause-written g c =
    let p = err_from_is_err_and c.from_residual-in_err-put_blocks.result c.from_residual-in_err-put_blocks.ensures.1 in
    let one = first_done (saved_of c.args.outcome.now) _ _ c.in_ok-put_first_line.ensures in
    rw p.1 (blocks_fault (saved_of c.args.outcome.now) _ _ _ one p.0 (rw c.deref.ensures.value at c.in_err-put_blocks.ensures.written))

pub returns-in_err-put_done_line-clause-written : goal.returns-in_err-put_done_line-clause-written
returns-in_err-put_done_line-clause-written g c =
    let p = err_from_is_err_and c.from_residual-in_err-put_done_line.result c.from_residual-in_err-put_done_line.ensures.1 in
    let one = first_done (saved_of c.args.outcome.now) _ _ c.in_ok-put_first_line.ensures in
    let two = blocks_done (saved_of c.args.outcome.now) _ _ _ one (rw c.deref.ensures.value at c.in_ok-put_blocks.ensures.written) in
    let count : c.len.result ≡ length c.args.outcome.now.rings.items = let ok = c.args.outcome.now.rings.ok.0 in omega (arith, ok) in
    rw p.1 (done_fault (saved_of c.args.outcome.now) _ _ _ two p.0 (rw count at c.in_err-put_done_line.ensures))

pub returns-clause-written : goal.returns-clause-written
returns-clause-written g c =
    let one = first_done (saved_of c.args.outcome.now) _ _ c.in_ok-put_first_line.ensures in
    let two = blocks_done (saved_of c.args.outcome.now) _ _ _ one (rw c.deref.ensures.value at c.in_ok-put_blocks.ensures.written) in
    let count : c.len.result ≡ length c.args.outcome.now.rings.items = let ok = c.args.outcome.now.rings.ok.0 in omega (arith, ok) in
    done_done (saved_of c.args.outcome.now) _ _ _ two (rw count at c.in_ok-put_done_line.ensures)

pub returns-clause-fits : goal.returns-clause-fits
returns-clause-fits g c = text_fits c.args.outcome.now c.requires.some c.requires.most (rw c.deref.ensures.value at c.in_ok-put_blocks.ensures.fits)
