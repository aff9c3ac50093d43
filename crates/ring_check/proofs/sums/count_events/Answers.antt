use Rattle.std.proofs.Common.{arith}
use Rattle.ring_model.specs.declared.events.Event.{Event}
use Rattle.ring_model.specs.Surveys.{is_granted, is_corrupted}
use Rattle.ring_check.proofs.Totals.{count_step}
use Rattle.ring_check.proofs.sums.count_events.Goals as goal
use Rattle.ring_check.proofs.sums.count_events.Goals.{in-Granted, in-Refused, in-Member, in-Corrupted}

pub loop-event-preserved : goal.loop-event-preserved
loop-event-preserved c = elim c.match-event.branch [
  | in-Granted w ↦
      let g = count_step (λ (e : Event). is_granted e.reply) c.args.events.now c.loop-event.event-index _ _ c.loop-event-test.true w.in-Granted.is in
      let d = count_step (λ (e : Event). is_corrupted e.reply) c.args.events.now c.loop-event.event-index _ _ c.loop-event-test.true w.in-Granted.is in
      record { granted = omega arith; corrupted = omega arith; few_granted = omega arith; few_corrupted = omega arith }
  | in-Refused w ↦
      let g = count_step (λ (e : Event). is_granted e.reply) c.args.events.now c.loop-event.event-index _ _ c.loop-event-test.true w.in-Refused.is in
      let d = count_step (λ (e : Event). is_corrupted e.reply) c.args.events.now c.loop-event.event-index _ _ c.loop-event-test.true w.in-Refused.is in
      record { granted = omega arith; corrupted = omega arith; few_granted = omega arith; few_corrupted = omega arith }
  | in-Member w ↦
      let g = count_step (λ (e : Event). is_granted e.reply) c.args.events.now c.loop-event.event-index _ _ c.loop-event-test.true w.in-Member.is in
      let d = count_step (λ (e : Event). is_corrupted e.reply) c.args.events.now c.loop-event.event-index _ _ c.loop-event-test.true w.in-Member.is in
      record { granted = omega arith; corrupted = omega arith; few_granted = omega arith; few_corrupted = omega arith }
  | in-Corrupted w ↦
      let g = count_step (λ (e : Event). is_granted e.reply) c.args.events.now c.loop-event.event-index _ _ c.loop-event-test.true w.in-Corrupted.is in
      let d = count_step (λ (e : Event). is_corrupted e.reply) c.args.events.now c.loop-event.event-index _ _ c.loop-event-test.true w.in-Corrupted.is in
      record { granted = omega arith; corrupted = omega arith; few_granted = omega arith; few_corrupted = omega arith }
]
