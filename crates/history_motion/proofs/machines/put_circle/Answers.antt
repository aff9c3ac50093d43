use Rattle.std.proofs.Common.{◌++◌, [], Err, map}
use Rattle.std.specs.Prelude.{codes}
use Rattle.text_lines.specs.Spelling.{numbers_text}
use Rattle.text_lines.proofs.Writing.{writes_then, writes_err}
use Rattle.ring_model.specs.Numbers.{bit}
use Rattle.history_motion.specs.Motion.{circle_front, circle_end}
use Rattle.history_motion.proofs.machines.put_circle.Goals as goal

pub returns-in-Ok-put_flags : goal.returns-in-Ok-put_flags
returns-in-Ok-put_flags g c =
    let front = circle_front c.args.circle.now c.args.flags.now in
    let seen = numbers_text (codes ";") [] (map bit c.args.flags.now) in
    writes_then _ _ _ c.put.result front (seen ++ circle_end) c.in-Ok.ensures (writes_then _ _ _ c.put.result seen circle_end c.in-Ok-put_flags.ensures c.put.ensures)

pub returns-in-Err-put_flags : goal.returns-in-Err-put_flags
returns-in-Err-put_flags g c =
    let front = circle_front c.args.circle.now c.args.flags.now in
    let seen = numbers_text (codes ";") [] (map bit c.args.flags.now) in
    let e = c.in-Err-put_flags.fault in
    writes_then _ _ _ (Err e) front (seen ++ circle_end) c.in-Ok.ensures (writes_err _ _ e seen circle_end c.in-Err-put_flags.ensures)

pub returns-in-Err : goal.returns-in-Err
returns-in-Err g c =
    let seen = numbers_text (codes ";") [] (map bit c.args.flags.now) in
    writes_err _ _ c.in-Err.fault (circle_front c.args.circle.now c.args.flags.now) (seen ++ circle_end) c.in-Err.ensures
