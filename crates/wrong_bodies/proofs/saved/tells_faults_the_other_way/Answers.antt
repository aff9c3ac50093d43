use Rattle.saved_history.specs.Content.{content}
use Rattle.saved_history.specs.Spelling.{text}
use Rattle.wrong_bodies.proofs.Texts.{no_fault_is_hidden, no_fault_is_made}
use Rattle.wrong_bodies.proofs.saved.tells_faults_the_other_way.Goals as goal

pub returns-in-Ok : goal.returns-in-Ok
returns-in-Ok g c = record {
  wrong = λ h. no_fault_is_made (g.W.Write.contents c.args.out.now) (g.W.Write.contents c.write_saved.new.out) (text (content c.args.saved.now)) _ c.requires.known c.in-Ok.ensures.written h;
}

pub returns-in-Err : goal.returns-in-Err
returns-in-Err g c = record {
  wrong = λ k. no_fault_is_hidden (g.W.Write.contents c.args.out.now) (g.W.Write.contents c.write_saved.new.out) (text (content c.args.saved.now)) _ c.requires.known c.in-Err.ensures.written k;
}
