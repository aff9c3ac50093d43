use Rattle.wrong_commands.proofs.Makings.{another_was}
use Rattle.wrong_commands.proofs.files.history_in_another_file.Goals as goal

pub returns : goal.returns
returns g c = record {
  wrong = λ h. another_was _ _ c.args.other.now c.args._file.now _ c.requires.known c.requires.named c.requires.apart c.requires.others c.in_ok-save_and_report.ensures.stored h;
}
