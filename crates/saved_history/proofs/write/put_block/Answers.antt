use Rattle.std.proofs.Common.{◌<◌, arith, rules}
use Rattle.std.proofs.lemmas.Result.{err_from_is_err_and}
use Rattle.saved_history.specs.Content.{block_of}
use Rattle.saved_history.proofs.TextParts.{head_done, head_fault, start_done, start_fault, history_done, history_fault, surveys_fault, surveys_done}
use Rattle.saved_history.proofs.write.put_block.Goals as goal

pub returns-in_err-put_ring_line-clause-written : goal.returns-in_err-put_ring_line-clause-written
returns-in_err-put_ring_line-clause-written g c =
    let p = err_from_is_err_and c.from_residual.result c.from_residual.ensures.1 in
    rw p.1 (head_fault (block_of c.args.ring.now) _ _ p.0 c.in_err-put_ring_line.ensures)

pub returns-in_err-put_start_line-clause-written : goal.returns-in_err-put_start_line-clause-written
returns-in_err-put_start_line-clause-written g c =
    let p = err_from_is_err_and c.from_residual-in_err-put_start_line.result c.from_residual-in_err-put_start_line.ensures.1 in
    let one = head_done (block_of c.args.ring.now) _ _ c.in_ok-put_ring_line.ensures in
    rw p.1 (start_fault (block_of c.args.ring.now) _ _ _ one p.0 (rw c.deref.ensures.value at c.in_err-put_start_line.ensures.written))

pub returns-in_err-put_history-clause-written : goal.returns-in_err-put_history-clause-written
returns-in_err-put_history-clause-written g c =
    let p = err_from_is_err_and c.from_residual-in_err-put_history.result c.from_residual-in_err-put_history.ensures.1 in
    let one = head_done (block_of c.args.ring.now) _ _ c.in_ok-put_ring_line.ensures in
    let two = start_done (block_of c.args.ring.now) _ _ _ one (rw c.deref.ensures.value at c.in_ok-put_start_line.ensures.written) in
    rw p.1 (history_fault (block_of c.args.ring.now) _ _ _ two p.0 (rw c.deref-2.ensures.value at c.in_err-put_history.ensures.written))

pub returns-in_err-put_surveys-clause-written : goal.returns-in_err-put_surveys-clause-written
returns-in_err-put_surveys-clause-written g c =
    let p = err_from_is_err_and c.from_residual-in_err-put_surveys.result c.from_residual-in_err-put_surveys.ensures.1 in
    let one = head_done (block_of c.args.ring.now) _ _ c.in_ok-put_ring_line.ensures in
    let two = start_done (block_of c.args.ring.now) _ _ _ one (rw c.deref.ensures.value at c.in_ok-put_start_line.ensures.written) in
    let three = history_done (block_of c.args.ring.now) _ _ _ two (rw c.deref-2.ensures.value at c.in_ok-put_history.ensures.written) in
    rw p.1 (surveys_fault (block_of c.args.ring.now) _ _ _ three p.0 (rw c.deref-3.ensures.value at c.in_err-put_surveys.ensures.written))

pub returns-clause-written : goal.returns-clause-written
returns-clause-written g c =
    let one = head_done (block_of c.args.ring.now) _ _ c.in_ok-put_ring_line.ensures in
    let two = start_done (block_of c.args.ring.now) _ _ _ one (rw c.deref.ensures.value at c.in_ok-put_start_line.ensures.written) in
    let three = history_done (block_of c.args.ring.now) _ _ _ two (rw c.deref-2.ensures.value at c.in_ok-put_history.ensures.written) in
    surveys_done (block_of c.args.ring.now) _ _ _ three (rw c.deref-3.ensures.value at c.in_ok-put_surveys.ensures.written)

pub returns-clause-fits : goal.returns-clause-fits
returns-clause-fits g c = λ version none.
    let some : 0 < c.args.ring.now.n = c.args.ring.now.some in
    record {
      head = record { index = search rules; some = some; n = search rules; k = search rules };
      start = omega (arith, c.args.ring.now.has_n, c.args.ring.now.start.ok.0);
      values = rw c.deref.ensures.value at c.in_ok-put_start_line.ensures.small;
      events = (rw c.deref-2.ensures.value at c.in_ok-put_history.ensures.fits) version none;
      events_said = search rules;
      surveys = rw c.deref-3.ensures.value at c.in_ok-put_surveys.ensures.fits;
    }
