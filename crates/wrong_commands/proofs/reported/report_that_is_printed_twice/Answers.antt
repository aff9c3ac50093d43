use Rattle.wrong_commands.proofs.OneReport.{not_printed_twice}
use Rattle.wrong_commands.proofs.reported.report_that_is_printed_twice.Goals as goal

pub returns : goal.returns
returns g c = record {
  wrong = λ report is both. not_printed_twice c.args.bytes.now _ _ report _ _ _ c.requires.known c.in_ok-print_report.ensures.ok.1 c.in_ok-print_report-2.ensures.ok.1 is
      c.in_ok-print_report.ensures.ok.2 c.in_ok-print_report-2.ensures.ok.2 both;
}
