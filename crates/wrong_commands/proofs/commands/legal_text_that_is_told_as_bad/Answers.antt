use Rattle.wrong_commands.proofs.Checked.{not_both}
use Rattle.wrong_commands.proofs.commands.legal_text_that_is_told_as_bad.Goals as goal

pub returns-in-Ok : goal.returns-in-Ok
returns-in-Ok g c = record { wrong = λ h. not_both c.args.bytes.now c.in-Ok.ensures.ok.0 c.args.line c.args.kind h c.in-Ok.ensures.ok.1 }
