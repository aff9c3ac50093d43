use Rattle.ring_text.specs.Report.{farm_line}
use Rattle.wrong_commands.proofs.Written.{one_text}
use Rattle.wrong_commands.proofs.texts.total_of_another_outcome.Goals as goal

pub returns : goal.returns
returns g c = record {
  wrong = λ h. c.requires.apart
      (one_text (g.W.Write.contents c.args.out.now) (g.W.Write.contents c.write_total.new.out) (farm_line c.args.other.now) (farm_line c.args.outcome.now) c.requires.known c.in_ok-write_total.ensures h);
}
