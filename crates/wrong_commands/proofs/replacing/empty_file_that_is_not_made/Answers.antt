use Rattle.wrong_commands.proofs.Makings.{none_made}
use Rattle.wrong_commands.proofs.replacing.empty_file_that_is_not_made.Goals as goal

pub returns : goal.returns
returns g c = record { wrong = λ h. none_made (g.D.Disk.holds c.args._disk.now) c.args._name.now c.requires.known h }
