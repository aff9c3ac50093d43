use Rattle.wrong_commands.proofs.Makings.{grown_there}
use Rattle.wrong_commands.proofs.replacing.grown_file_that_cannot_be_opened.Goals as goal

pub returns : goal.returns
returns g c = record { wrong = λ h. grown_there _ _ c.args.name.now _ c.requires.known c.grow.ensures.kept c.in-Ok.ensures.opened h }
