use Rattle.std.proofs.Common.{refl}
use Rattle.wrong_commands.proofs.Makings.{as_it_was}
use Rattle.wrong_commands.proofs.files.history_that_is_not_saved.Goals as goal

pub returns : goal.returns
returns g c = record { wrong = λ h. as_it_was _ _ c.args._file.now _ c.requires.known refl c.requires.others h }
