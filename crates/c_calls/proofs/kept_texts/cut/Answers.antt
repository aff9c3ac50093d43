use Rattle.std.proofs.Common.{inr, refl}
use Rattle.c_calls.proofs.kept_texts.cut.Goals as goal

pub returns-in-Idle : goal.returns-in-Idle
returns-in-Idle c = rw c.in-Idle.is (inr (inr (refl, refl, refl, refl)))
