-- What the lines of the files of a folder say of names, and what is known after them (this project's
-- own).
use Rattle.std.specs.Prelude.{ℕ, zero, suc, ◌-◌, ◌++◌, Bool, List, [], ◌∷◌, length, Option, None, is_some}
use Rattle.std.specs.List.{sum_by}
use Rattle.name_bindings.specs.Bindings.{Bound, fixed_names, frees}
use Rattle.name_check.specs.declared.lines.Ring.{Ring}
use Rattle.name_check.specs.declared.lines.Due.{Due}
use Rattle.name_check.specs.declared.lines.Due.TheVariants as due

-- What a line says: how many grants were made of all rings; a name is bound to a ring; a ring has no
-- name any more; a ring is granted; it is repaired; its hold ends; anything else. Or a file begins,
-- with this number of rings.
pub data Entry : Type 0 where
  Top : ℕ → Entry
  Bind : ℕ → Bound → Entry
  Free : ℕ → Entry
  Grant : ℕ → Entry
  Repair : ℕ → Entry
  End : ℕ → Entry
  Other : Entry
  File : ℕ → Entry

-- What is known after some lines: the rings, and the name of each that has one; how many rings are of
-- fixed locks, which come first; how many grants there were of all rings; what has to come next.
pub record Judged : Type 0 where
  pub rings : List Ring
  pub names : List (Option Bound)
  pub fixed : ℕ
  pub top : ℕ
  pub due : Due

-- a client holds its lock
abbrev pub is_held : Ring → Bool
is_held g = is_some g.held

-- rings that were never granted
abbrev pub fresh_ring : Ring
fresh_ring = record { grants = 0; held = None }

abbrev pub fresh_rings : ℕ → List Ring
fresh_rings zero = []
fresh_rings (suc n) = fresh_ring ∷ fresh_rings n

-- how many grants they had
abbrev pub grants_in : List Ring → ℕ
grants_in rings = sum_by (λ (g : Ring). g.grants) rings

-- The first file that is judged: of its rings, what its head says; of names, those of fixed locks.
abbrev pub begun : List (List ℕ) → List Ring → Judged
begun fixed rings = record {
  rings = rings;
  names = fixed_names fixed ++ frees (length rings - length fixed);
  fixed = length fixed;
  top = grants_in rings;
  due = due.Top;
}
