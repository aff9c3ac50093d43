-- Why the text of a farm's outcome fits.
use Rattle.std.proofs.Common.{◌≡◌, ℕ, suc, ◌+◌, ◌≤◌, List, [], ◌∷◌, length, refl, ap, arith}
use Rattle.std.specs.List.{AllByRecursion}
use Rattle.ring_settings.specs.Limits.{ring_limit}
use Rattle.ring_farm.specs.declared.outcomes.Outcome.{Outcome}
use Rattle.ring_logs.specs.declared.outcomes.RingOutcome.{RingOutcome}
use Rattle.saved_history.specs.Versions.{latest_version}
use Rattle.saved_history.specs.Spelling.{BlockFits, Fits}
use Rattle.ring_text.specs.SavedOf.{blocks_from, saved_of}

pub blocks_count : (place : ℕ) (rs : List RingOutcome) → length (blocks_from place rs) ≡ length rs
blocks_count place [] = refl
blocks_count place (r ∷ rs) = ap suc (blocks_count (place + 1) rs)

-- each block fits, there is one at least, and they are few
pub text_fits : (o : Outcome) → 1 ≤ length o.rings.items → length o.rings.items ≤ ring_limit → AllByRecursion (BlockFits latest_version) (blocks_from 0 o.rings.items) → Fits (saved_of o)
text_fits o some most blocks = record { version = (omega arith, omega arith); some = omega (arith, blocks_count 0 o.rings.items, some); rings = blocks; rings_said = omega (arith, most) }
