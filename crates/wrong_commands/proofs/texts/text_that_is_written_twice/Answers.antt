use Rattle.saved_history.specs.Spelling.{text}
use Rattle.ring_text.specs.SavedOf.{saved_of}
use Rattle.wrong_commands.proofs.Reports.{text_some}
use Rattle.wrong_commands.proofs.Written.{not_twice}
use Rattle.wrong_commands.proofs.texts.text_that_is_written_twice.Goals as goal

pub returns : goal.returns
returns g c = record {
  wrong = λ h. not_twice (g.W.Write.contents c.args.out.now) (g.W.Write.contents c.write_outcome.new.out) (g.W.Write.contents c.write_outcome-2.new.out) (text (saved_of c.args.outcome.now))
      c.requires.known (text_some (saved_of c.args.outcome.now)) c.in_ok-write_outcome.ensures.written c.in_ok-write_outcome-2.ensures.written h;
}
