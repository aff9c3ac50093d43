use Rattle.std.specs.Prelude.{OnOk, Result, Ok, Err}
use Rattle.ring_service.proofs.segmented.RingServiceSegmented.text.Goals as goal

in_any_case : {T E : Type 0} (r : Result T E) → OnOk r (Unit {0})
in_any_case (Ok v) = tt
in_any_case (Err e) = tt

pub returns-clause-fits : goal.returns-clause-fits
returns-clause-fits c = in_any_case c.segment_text.result
