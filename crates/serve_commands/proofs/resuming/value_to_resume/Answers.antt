use Rattle.serve_commands.proofs.JournalStarts.{recovered_begins}
use Rattle.serve_commands.proofs.resuming.value_to_resume.Goals as goal

pub returns-in-Ok-recover_journal-clause-rings : goal.returns-in-Ok-recover_journal-clause-rings
returns-in-Ok-recover_journal-clause-rings g c = recovered_begins c.as_slice.result.now c.in-Ok-recover_journal.now c.in-Ok-recover_journal.ensures
