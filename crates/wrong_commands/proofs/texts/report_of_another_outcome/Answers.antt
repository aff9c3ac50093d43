use Rattle.ring_text.specs.Report.{report}
use Rattle.wrong_commands.proofs.Written.{one_text}
use Rattle.wrong_commands.proofs.texts.report_of_another_outcome.Goals as goal

pub returns : goal.returns
returns g c = record {
  wrong = λ h. c.requires.apart
      (one_text (g.W.Write.contents c.args.out.now) (g.W.Write.contents c.write_report.new.out) (report c.args.other.now) (report c.args.outcome.now) c.requires.known c.in_ok-write_report.ensures h);
}
