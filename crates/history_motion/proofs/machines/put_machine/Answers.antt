use Rattle.std.proofs.Common.{◌++◌, Err}
use Rattle.text_lines.proofs.Writing.{writes_then, writes_err}
use Rattle.history_motion.specs.Motion.{machine_opening, machine_circles, machine_ending}
use Rattle.history_motion.proofs.machines.put_machine.Goals as goal

pub returns-in-Ok-put_circles : goal.returns-in-Ok-put_circles
returns-in-Ok-put_circles g c =
    let front = machine_opening c.args.n c.args.machine in
    let circles = machine_circles c.args.privileged.now c.args.hit.now in
    let last = machine_ending c.args.n c.args.machine in
    writes_then _ _ _ c.put_ending.result front (circles ++ last) c.in-Ok.ensures (writes_then _ _ _ c.put_ending.result circles last c.in-Ok-put_circles.ensures c.put_ending.ensures)

pub returns-in-Err-put_circles : goal.returns-in-Err-put_circles
returns-in-Err-put_circles g c =
    let front = machine_opening c.args.n c.args.machine in
    let circles = machine_circles c.args.privileged.now c.args.hit.now in
    let last = machine_ending c.args.n c.args.machine in
    let e = c.in-Err-put_circles.fault in
    writes_then _ _ _ (Err e) front (circles ++ last) c.in-Ok.ensures (writes_err _ _ e circles last c.in-Err-put_circles.ensures)

pub returns-in-Err : goal.returns-in-Err
returns-in-Err g c =
    let circles = machine_circles c.args.privileged.now c.args.hit.now in
    writes_err _ _ c.in-Err.fault (machine_opening c.args.n c.args.machine) (circles ++ machine_ending c.args.n c.args.machine) c.in-Err.ensures
