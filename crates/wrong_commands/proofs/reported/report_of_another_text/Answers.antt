use Rattle.wrong_commands.proofs.Written.{one_text}
use Rattle.wrong_commands.proofs.reported.report_of_another_text.Goals as goal

pub returns : goal.returns
returns g c = record {
  wrong = λ report is appended. c.requires.apart report _ is c.in_ok-print_report.ensures.ok.1
      (one_text (g.W.Write.contents c.args.out.now) (g.W.Write.contents c.print_report.new.out) _ report c.requires.known c.in_ok-print_report.ensures.ok.2 appended);
}
