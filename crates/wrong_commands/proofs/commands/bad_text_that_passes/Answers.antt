use Rattle.wrong_commands.proofs.Checked.{not_checked}
use Rattle.wrong_commands.proofs.commands.bad_text_that_passes.Goals as goal

pub returns-in-Err-Bad : goal.returns-in-Err-Bad
returns-in-Err-Bad g c = record {
  wrong = λ h. not_checked c.args.bytes.now h.0 (g.W.Write.contents c.args.out.now) (g.W.Write.contents c.check_bytes.new.out) c.in-Err-Bad.field-0 c.in-Err-Bad.field-0-0 c.in-Err-Bad.field-0-1 c.in-Err-Bad.field-0-is c.in-Err-Bad.ensures.err h.1;
}
