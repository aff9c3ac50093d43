use Rattle.std.proofs.Common.{None, sym}
use Rattle.std.proofs.lemmas.Result.{err_from_is_err_and}
use Rattle.segment_files.specs.Chain.{states_in}
use Rattle.segment_files.proofs.chain.step.Goals as goal

pub returns-in_err-segment : goal.returns-in_err-segment
returns-in_err-segment c =
    let p = err_from_is_err_and c.from_residual.result c.from_residual.ensures.1 in
    rw (p.1, p.2) (c.in_err-segment.ensures (states_in c.args.now.now) c.args.last)

pub returns : goal.returns
returns c = rw c.in-None.is (c.follow-in-None.ensures None (sym (c.in_ok-link-in-None.ensures c.args.bytes.now)) (sym c.none.ensures))
