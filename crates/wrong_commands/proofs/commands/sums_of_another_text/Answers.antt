use Rattle.tool_parts.specs.CheckText.{legal_line}
use Rattle.wrong_commands.proofs.Written.{one_text}
use Rattle.wrong_commands.proofs.commands.sums_of_another_text.Goals as goal

pub returns : goal.returns
returns g c = record {
  wrong = λ h. c.requires.apart
      (one_text (g.W.Write.contents c.args.out.now) (g.W.Write.contents c.tell_sums.new.out) (legal_line c.args.other.now) (legal_line c.args.sums.now) c.requires.known c.in_ok-tell_sums.ensures h);
}
