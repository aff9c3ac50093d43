use Rattle.std.proofs.Common.{◌<◌, length, map, arith, rules}
use Rattle.std.proofs.lemmas.List.{length-map}
use Rattle.std.proofs.lemmas.Result.{err_from_is_err_and}
use Rattle.saved_history.specs.Content.{content, block_of}
use Rattle.saved_history.proofs.TextParts.{first_done, first_fault, blocks_done, blocks_fault, done_done, done_fault}
use Rattle.saved_history.proofs.write.write_saved.Goals as goal

pub returns-in_err-put_first_line-clause-written : goal.returns-in_err-put_first_line-clause-written
returns-in_err-put_first_line-clause-written g c =
    let p = err_from_is_err_and c.from_residual.result c.from_residual.ensures.1 in
    rw p.1 (first_fault (content c.args.saved.now) _ _ p.0 c.in_err-put_first_line.ensures)

pub returns-in_err-put_blocks-clause-written : goal.returns-in_err-put_blocks-clause-written
returns-in_err-put_blocks-clause-written g c =
    let p = err_from_is_err_and c.from_residual-in_err-put_blocks.result c.from_residual-in_err-put_blocks.ensures.1 in
    let one = first_done (content c.args.saved.now) _ _ c.in_ok-put_first_line.ensures in
    rw p.1 (blocks_fault (content c.args.saved.now) _ _ _ one p.0 (rw c.deref.ensures.value at c.in_err-put_blocks.ensures.written))

pub returns-in_err-put_done_line-clause-written : goal.returns-in_err-put_done_line-clause-written
returns-in_err-put_done_line-clause-written g c =
    let p = err_from_is_err_and c.from_residual-in_err-put_done_line.result c.from_residual-in_err-put_done_line.ensures.1 in
    let one = first_done (content c.args.saved.now) _ _ c.in_ok-put_first_line.ensures in
    let two = blocks_done (content c.args.saved.now) _ _ _ one (rw c.deref.ensures.value at c.in_ok-put_blocks.ensures.written) in
    rw p.1 (done_fault (content c.args.saved.now) _ _ _ two p.0 c.in_err-put_done_line.ensures)

pub returns-clause-written : goal.returns-clause-written
returns-clause-written g c =
    let one = first_done (content c.args.saved.now) _ _ c.in_ok-put_first_line.ensures in
    let two = blocks_done (content c.args.saved.now) _ _ _ one (rw c.deref.ensures.value at c.in_ok-put_blocks.ensures.written) in
    done_done (content c.args.saved.now) _ _ _ two c.in_ok-put_done_line.ensures

pub returns-clause-fits : goal.returns-clause-fits
returns-clause-fits g c =
    let some : 0 < length (map block_of c.args.saved.now.rings.items) = omega (arith, length-map c.args.saved.now.rings.items block_of, c.requires.some) in
    record {
      version = c.requires.version;
      some = some;
      rings = (rw c.deref.ensures.value at c.in_ok-put_blocks.ensures.fits) c.args.saved.now.version (λ low. c.requires.members (omega (arith, low, c.requires.version.0)));
      rings_said = search rules;
    }
