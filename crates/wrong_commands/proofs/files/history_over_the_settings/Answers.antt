use Rattle.wrong_commands.proofs.files.history_over_the_settings.Goals as goal

pub returns : goal.returns
returns g c = record { wrong = λ was is h. c.requires.one h.1.2 }
