use Rattle.wrong_commands.proofs.files.picture_over_the_history.Goals as goal

pub returns : goal.returns
returns g c = record { wrong = λ apart. c.requires.one (apart c.requires.named) }
