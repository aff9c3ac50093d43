use Rattle.std.proofs.lemmas.Result.{err_from_is_err_and}
use Rattle.saved_history.proofs.TextParts.{first_done, first_fault, blocks_done, blocks_fault, done_done, done_fault}
use Rattle.one_thread_ring.specs.Texts.{saved_alone}
use Rattle.one_thread_ring.proofs.Saved.{alone_legal, alone_fits, alone_text}
use Rattle.one_thread_ring.proofs.saving.OneThreadRing+Till.save.Goals as goal

pub returns-in_err-put_first_line-clause-written : goal.returns-in_err-put_first_line-clause-written
returns-in_err-put_first_line-clause-written g c =
    let p = err_from_is_err_and c.from_residual.result c.from_residual.ensures.1 in
    rw p.1 (first_fault (saved_alone c.args.self.now) _ _ p.0 c.in_err-put_first_line.ensures)

pub returns-in_err-put_first_line-clause-legal : goal.returns-in_err-put_first_line-clause-legal
returns-in_err-put_first_line-clause-legal g c = alone_legal c.args.self.now c.clients.ensures.ring

pub returns-in_err-put_ring-clause-written : goal.returns-in_err-put_ring-clause-written
returns-in_err-put_ring-clause-written g c =
    let p = err_from_is_err_and c.from_residual-in_err-put_ring.result c.from_residual-in_err-put_ring.ensures.1 in
    let one = first_done (saved_alone c.args.self.now) _ _ c.in_ok-put_first_line.ensures in
    rw p.1 (blocks_fault (saved_alone c.args.self.now) _ _ _ one p.0 (rw (alone_text c.args.self.now) c.in_err-put_ring.ensures.written))

pub returns-in_err-put_ring-clause-legal : goal.returns-in_err-put_ring-clause-legal
returns-in_err-put_ring-clause-legal g c = alone_legal c.args.self.now c.clients.ensures.ring

pub returns-in_err-put_done_line-clause-written : goal.returns-in_err-put_done_line-clause-written
returns-in_err-put_done_line-clause-written g c =
    let p = err_from_is_err_and c.from_residual-in_err-put_done_line.result c.from_residual-in_err-put_done_line.ensures.1 in
    let one = first_done (saved_alone c.args.self.now) _ _ c.in_ok-put_first_line.ensures in
    let two = blocks_done (saved_alone c.args.self.now) _ _ _ one (rw (alone_text c.args.self.now) c.in_ok-put_ring.ensures.written) in
    rw p.1 (done_fault (saved_alone c.args.self.now) _ _ _ two p.0 c.in_err-put_done_line.ensures)

pub returns-in_err-put_done_line-clause-legal : goal.returns-in_err-put_done_line-clause-legal
returns-in_err-put_done_line-clause-legal g c = alone_legal c.args.self.now c.clients.ensures.ring

pub returns-clause-written : goal.returns-clause-written
returns-clause-written g c =
    let one = first_done (saved_alone c.args.self.now) _ _ c.in_ok-put_first_line.ensures in
    let two = blocks_done (saved_alone c.args.self.now) _ _ _ one (rw (alone_text c.args.self.now) c.in_ok-put_ring.ensures.written) in
    done_done (saved_alone c.args.self.now) _ _ _ two c.in_ok-put_done_line.ensures

pub returns-clause-fits : goal.returns-clause-fits
returns-clause-fits g c = alone_fits c.args.self.now c.in_ok-put_ring.ensures.fits

pub returns-clause-legal : goal.returns-clause-legal
returns-clause-legal g c = alone_legal c.args.self.now c.clients.ensures.ring
