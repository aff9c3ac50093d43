use Rattle.wrong_commands.proofs.Checked.{not_refused}
use Rattle.wrong_commands.proofs.commands.bad_text_with_a_value.Goals as goal

pub returns-in-Err-Bad : goal.returns-in-Err-Bad
returns-in-Err-Bad c = record {
  wrong = λ h. not_refused c.args.bytes.now c.args.sums c.in-Err-Bad.field-0 c.in-Err-Bad.field-0-0 c.in-Err-Bad.field-0-1 c.in-Err-Bad.field-0-is c.in-Err-Bad.ensures.err h.0;
}
