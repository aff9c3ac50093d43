use Rattle.std.proofs.Common.{◌+◌, ◌++◌, Err}
use Rattle.text_lines.proofs.Writing.{writes_then, writes_err}
use Rattle.saved_history.specs.Content.{block_of}
use Rattle.history_picture.specs.Stretches.{pieces}
use Rattle.history_motion.specs.Motion.{opening, machine_text, bar, legend}
use Rattle.history_motion.proofs.page.put_motion.Goals as goal

pub returns-in-Ok-put_machines : goal.returns-in-Ok-put_machines
returns-in-Ok-put_machines g c =
    let b = block_of c.args.ring.now in
    let front = opening b c.args.from c.args.count in
    let machines = pieces (machine_text b c.args.from (c.args.count + 1)) b.n in
    let below = bar c.args.from c.args.count ++ legend in
    writes_then _ _ _ c.put_below.result front (machines ++ below) c.in-Ok.ensures (writes_then _ _ _ c.put_below.result machines below c.in-Ok-put_machines.ensures c.put_below.ensures)

pub returns-in-Err-put_machines : goal.returns-in-Err-put_machines
returns-in-Err-put_machines g c =
    let b = block_of c.args.ring.now in
    let front = opening b c.args.from c.args.count in
    let machines = pieces (machine_text b c.args.from (c.args.count + 1)) b.n in
    let below = bar c.args.from c.args.count ++ legend in
    let e = c.in-Err-put_machines.fault in
    writes_then _ _ _ (Err e) front (machines ++ below) c.in-Ok.ensures (writes_err _ _ e machines below c.in-Err-put_machines.ensures)

pub returns-in-Err : goal.returns-in-Err
returns-in-Err g c =
    let b = block_of c.args.ring.now in
    let machines = pieces (machine_text b c.args.from (c.args.count + 1)) b.n in
    writes_err _ _ c.in-Err.fault (opening b c.args.from c.args.count) (machines ++ (bar c.args.from c.args.count ++ legend)) c.in-Err.ensures
