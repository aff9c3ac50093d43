use Rattle.run_commands.specs.Ran.{report_text}
use Rattle.wrong_commands.proofs.Written.{one_text}
use Rattle.wrong_commands.proofs.files.outcome_that_is_anothers.Goals as goal

pub returns : goal.returns
returns g c = record {
  wrong = λ h. c.requires.apart
      (one_text (g.W.Write.contents c.args.out.now) (g.W.Write.contents c.save_and_report.new.out) (report_text c.args.quiet c.args.other.now) (report_text c.args.quiet c.args.outcome.now) c.requires.known c.in_ok-save_and_report.ensures.told h);
}
