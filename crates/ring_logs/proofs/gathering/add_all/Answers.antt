use Rattle.ring_model.specs.declared.events.Entry.{Entry}
use Rattle.ring_model.specs.declared.events.Entry.TheVariants as entry
use Rattle.ring_model.specs.declared.events.Op.TheVariants.{Pass}
use Rattle.ring_model.specs.declared.events.Reply.TheVariants.{Granted}
use Rattle.ring_logs.proofs.AllSurveys.{log_further}
use Rattle.ring_logs.proofs.gathering.add_all.Goals as goal

abbrev some_entry : Entry
some_entry = entry.Receipt (record { position = 0; event = record { seat = 0; op = Pass 0 0; reply = Granted 0 0 } })

pub loop-entry-preserved : goal.loop-entry-preserved
loop-entry-preserved c = log_further c.args.log.now c.loop-entry.entry-index some_entry _ c.loop-entry.surveys.items _ c.loop-entry-test.true c.loop-entry.invariant c.in_ok-add.ensures
