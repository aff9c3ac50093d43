use Rattle.wrong_commands.proofs.Makings.{none_removed}
use Rattle.wrong_commands.proofs.replacing.empty_file_that_is_not_removed.Goals as goal

pub returns : goal.returns
returns g c = record { wrong = λ h. none_removed (g.D.Disk.holds c.args._disk.now) c.args._name.now c.requires.known h }
