use Rattle.ring_text.specs.SavedOf.{saved_of}
use Rattle.wrong_commands.proofs.Written.{one_value_is_written}
use Rattle.wrong_commands.proofs.texts.text_of_another_outcome.Goals as goal

pub returns : goal.returns
returns g c = record {
  wrong = λ h f. c.requires.apart
      (one_value_is_written (g.W.Write.contents c.args.out.now) (g.W.Write.contents c.write_outcome.new.out) (saved_of c.args.other.now) (saved_of c.args.outcome.now) c.requires.known
      c.in_ok-write_outcome.ensures.fits f c.in_ok-write_outcome.ensures.written h);
}
