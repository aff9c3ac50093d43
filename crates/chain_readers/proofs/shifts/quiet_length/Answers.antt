use Rattle.std.proofs.Common.{ap}
use Rattle.ring_model.specs.Surveys.{is_corrupted}
use Rattle.saved_history.specs.declared.saved.SavedEvent.{SavedEvent}
use Rattle.saved_history.specs.declared.saved.SavedEvent.TheVariants.{Granted}
use Rattle.ring_check.specs.Table.{event_of}
use Rattle.chain_readers.proofs.Quiet.{quiet_more, quiet_to, no_corruption}
use Rattle.chain_readers.proofs.shifts.quiet_length.Goals as goal

pub returns-in-Corrupted : goal.returns-in-Corrupted
returns-in-Corrupted c = λ p lt. quiet_to c.args.events.now c.loop-i.i c.loop-i.invariant (Granted 0 0 0 0 0) c.loop-i-test.true (ap (λ (e : SavedEvent). is_corrupted (event_of e).reply) c.in-Corrupted.is) p

pub loop-i-preserved : goal.loop-i-preserved
loop-i-preserved c = quiet_more c.args.events.now c.loop-i.i c.loop-i.invariant (Granted 0 0 0 0 0) c.loop-i-test.true (no_corruption _ c.in_default.not-Corrupted)
