use Rattle.saved_history.specs.Spelling.{text}
use Rattle.one_thread_ring.specs.Texts.{saved_alone}
use Rattle.wrong_shared_bodies.proofs.Written.{one_text}
use Rattle.wrong_shared_bodies.proofs.desks.save_of_another_rings_history.Goals as goal

pub returns : goal.returns
returns g c = record {
  wrong = λ h. c.requires.apart
      (one_text (g.W.Write.contents c.args.out.now) (g.W.Write.contents c.save.new.out) (text (saved_alone c.args.other.now)) (text (saved_alone c.args.ring.now)) c.requires.known c.in_ok-save.ensures.written h);
}
