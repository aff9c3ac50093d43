use Rattle.std.proofs.lemmas.Result.{err_from_is_err_and}
use Rattle.std.specs.List.{flat_map}
use Rattle.one_thread_ring.specs.SavedOf.{block_by}
use Rattle.saved_history.proofs.TextParts.{head_done, head_fault, start_done, start_fault, history_done, history_fault, surveys_fault}
use Rattle.one_thread_ring.proofs.BlockFitting.{block_fits}
use Rattle.one_thread_ring.proofs.blocks.put_block.Goals as goal

pub returns-in_err-put_size-clause-written : goal.returns-in_err-put_size-clause-written
returns-in_err-put_size-clause-written g c =
    let p = err_from_is_err_and c.from_residual.result c.from_residual.ensures.1 in
    let b = block_by c.args.place c.args.start.now c.args.history.now (flat_map g.L.SurveyLog.surveys c.args.logs.now) in
    rw p.1 (head_fault b _ _ p.0 c.in_err-put_size.ensures.written)

pub returns-in_err-put_start-clause-written : goal.returns-in_err-put_start-clause-written
returns-in_err-put_start-clause-written g c =
    let p = err_from_is_err_and c.from_residual-in_err-put_start.result c.from_residual-in_err-put_start.ensures.1 in
    let b = block_by c.args.place c.args.start.now c.args.history.now (flat_map g.L.SurveyLog.surveys c.args.logs.now) in
    let one = head_done b _ _ c.in_ok-put_size.ensures.written in
    rw p.1 (start_fault b _ _ _ one p.0 c.in_err-put_start.ensures)

pub returns-in_err-put_history-clause-written : goal.returns-in_err-put_history-clause-written
returns-in_err-put_history-clause-written g c =
    let p = err_from_is_err_and c.from_residual-in_err-put_history.result c.from_residual-in_err-put_history.ensures.1 in
    let b = block_by c.args.place c.args.start.now c.args.history.now (flat_map g.L.SurveyLog.surveys c.args.logs.now) in
    let one = head_done b _ _ c.in_ok-put_size.ensures.written in
    let two = start_done b _ _ _ one c.in_ok-put_start.ensures in
    rw p.1 (history_fault b _ _ _ two p.0 c.in_err-put_history.ensures.written)

pub returns-in_err-put_logs-clause-written : goal.returns-in_err-put_logs-clause-written
returns-in_err-put_logs-clause-written g c =
    let p = err_from_is_err_and c.from_residual-in_err-put_logs.result c.from_residual-in_err-put_logs.ensures.1 in
    let b = block_by c.args.place c.args.start.now c.args.history.now (flat_map g.L.SurveyLog.surveys c.args.logs.now) in
    let one = head_done b _ _ c.in_ok-put_size.ensures.written in
    let two = start_done b _ _ _ one c.in_ok-put_start.ensures in
    let three = history_done b _ _ _ two c.in_ok-put_history.ensures.written in
    rw p.1 (surveys_fault b _ _ _ three p.0 c.in_err-put_logs.ensures.written)

pub returns-clause-fits : goal.returns-clause-fits
returns-clause-fits g c =
    block_fits c.args.place c.args.start.now c.args.history.now (flat_map g.L.SurveyLog.surveys c.args.logs.now) c.ranges.place.fits c.in_ok-put_size.ensures.ring c.in_ok-put_history.ensures.few c.in_ok-put_history.ensures.fits c.in_ok-put_logs.ensures.fits
