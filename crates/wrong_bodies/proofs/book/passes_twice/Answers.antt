use Rattle.wrong_bodies.proofs.Calls.{one_event}
use Rattle.wrong_bodies.proofs.book.passes_twice.Goals as goal

pub returns : goal.returns
returns g c = record { wrong = λ h. one_event _ _ _ _ _ _ _ _ _ c.in_ok-first.ensures.ok c.in_ok-pass.ensures.ok h }
