use Rattle.saved_history.specs.Content.{content}
use Rattle.wrong_bodies.proofs.Texts.{one_value_is_written}
use Rattle.wrong_bodies.proofs.saved.writes_another_value.Goals as goal

pub returns : goal.returns
returns g c = record {
  wrong = λ h. c.requires.apart
      (one_value_is_written (g.W.Write.contents c.args.out.now) (g.W.Write.contents c.write_saved.new.out) (content c.args.other.now) (content c.args.saved.now) c.requires.known
      c.in_ok-write_saved.ensures.fits c.requires.fits c.in_ok-write_saved.ensures.written h);
}
