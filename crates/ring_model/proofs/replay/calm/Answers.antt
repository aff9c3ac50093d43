use Rattle.std.proofs.Common.{arith}
use Rattle.ring_model.proofs.PlainLoops.{calm_more}
use Rattle.ring_model.proofs.replay.calm.Goals as goal
use Rattle.ring_model.proofs.replay.calm.Goals.{in-Granted, in-NotPrivileged, in-Corrupted}

pub loop-event-preserved : goal.loop-event-preserved
loop-event-preserved c =
    elim c.match-event.branch [
      | in-Granted w ↦
          let more = calm_more c.args.events.now c.loop-event.event-index _ _ c.loop-event-test.true w.in-Granted.is in
          record { counted = omega arith; small = omega arith }
      | in-NotPrivileged w ↦
          let more = calm_more c.args.events.now c.loop-event.event-index _ _ c.loop-event-test.true w.in-NotPrivileged.is in
          record { counted = omega arith; small = omega arith }
      | in-Corrupted w ↦
          let more = calm_more c.args.events.now c.loop-event.event-index _ _ c.loop-event-test.true w.in-Corrupted.is in
          record { counted = omega arith; small = omega arith }
    ]
