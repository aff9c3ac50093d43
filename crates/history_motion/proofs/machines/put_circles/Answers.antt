use Rattle.text_lines.proofs.Writing.{writes_then, writes_err}
use Rattle.history_motion.specs.Motion.{seen_circle, privileged_circle, corruption_circle}
use Rattle.history_motion.proofs.machines.put_circles.Goals as goal

pub returns-in-Ok : goal.returns-in-Ok
returns-in-Ok g c =
    writes_then _ _ _ c.put_circle-in-Ok.result (seen_circle privileged_circle c.args.privileged.now) (seen_circle corruption_circle c.args.hit.now) c.in-Ok.ensures c.put_circle-in-Ok.ensures

pub returns-in-Err : goal.returns-in-Err
returns-in-Err g c =
    writes_err _ _ c.in-Err.fault (seen_circle privileged_circle c.args.privileged.now) (seen_circle corruption_circle c.args.hit.now) c.in-Err.ensures
