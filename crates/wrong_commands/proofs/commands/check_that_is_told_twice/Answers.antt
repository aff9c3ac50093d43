use Rattle.wrong_commands.proofs.Checked.{not_told_twice}
use Rattle.wrong_commands.proofs.commands.check_that_is_told_twice.Goals as goal

pub returns : goal.returns
returns g c = record {
  wrong = λ sums legal both. not_told_twice c.args.bytes.now _ _ sums _ _ _ c.requires.known c.in_ok-check_bytes.ensures.ok.1 c.in_ok-check_bytes-2.ensures.ok.1 legal
      c.in_ok-check_bytes.ensures.ok.2 c.in_ok-check_bytes-2.ensures.ok.2 both;
}
