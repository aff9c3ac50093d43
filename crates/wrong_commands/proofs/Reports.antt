-- Texts and reports that are not empty.
use Rattle.std.proofs.Common.{◌≡◌, ℕ, ◌+◌, ◌<◌, ◌≤◌, List, [], ◌∷◌, length, Option, Some, None, Bool, true, false, not, arith}
use Rattle.std.specs.Prelude.{IsSome, MatchOption}
use Rattle.std.specs.Io.KnownBytes.{Appends}
use Rattle.saved_history.specs.Content.{Content}
use Rattle.saved_history.specs.Spelling.{text}
use Rattle.ring_farm.specs.declared.outcomes.Outcome.{Outcome}
use Rattle.ring_farm.specs.RingOutcome.{RingOutcome}
use Rattle.ring_text.specs.Report.{rings_from, farm_line}
use Rattle.run_commands.specs.Ran.{report_text}
use Rattle.wrong_commands.proofs.Written.{not_more}

-- a saved text begins with its name
pub text_some : (c : Content) → 0 < length (text c)
text_some c = omega arith

-- the lines of a ring are some
pub rings_some : (place : ℕ) (rings : List RingOutcome) → 1 ≤ length rings → 0 < length (rings_from place rings)
rings_some place [] some = omega (arith, some)
rings_some place (r ∷ rs) some = omega arith

-- a list whose last element is taken
pub one_less : {X : Type 0} (o : Option X) (was now : ℕ) → MatchOption o ((was ≡ 0) × (now ≡ 0)) (λ _. now + 1 ≡ was) → 1 ≤ was → now + 1 ≡ was
one_less None was now h some = omega (arith, h.0, some)
one_less (Some x) was now h some = h

-- a whole report and its last line are apart
pub reports_apart : (old new : Option (List ℕ)) (quiet : Bool) (o : Outcome) → IsSome old → 1 ≤ length o.rings.items → Appends old new (report_text (not quiet) o) → Appends old new (report_text quiet o) → ⊥
reports_apart old new false o known some h k = not_more old new (rings_from 0 o.rings.items) (farm_line o) known (rings_some 0 o.rings.items some) h k
reports_apart old new true o known some h k = not_more old new (rings_from 0 o.rings.items) (farm_line o) known (rings_some 0 o.rings.items some) k h
