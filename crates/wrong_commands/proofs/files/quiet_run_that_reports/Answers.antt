use Rattle.wrong_commands.proofs.Reports.{reports_apart}
use Rattle.wrong_commands.proofs.files.quiet_run_that_reports.Goals as goal

pub returns : goal.returns
returns g c = record {
  wrong = λ h. reports_apart (g.W.Write.contents c.args.out.now) (g.W.Write.contents c.save_and_report.new.out) c.args.quiet c.args.outcome.now c.requires.known c.requires.some c.in_ok-save_and_report.ensures.told h;
}
