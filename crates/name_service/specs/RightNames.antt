-- Names that are right (this project's own).
use Rattle.std.specs.Prelude.{◌≡◌, ℕ, ◌≤◌, List, length, slice_get, Option, Some}
use Rattle.std.specs.List.{AllByRecursion}
use Rattle.line_service.specs.Answering.{Answers}
use Rattle.endless_ring.specs.Endless.{EndlessView}
use Rattle.held_locks.specs.Kept.{LockView, locks_of, lock_limit}
use Rattle.held_locks.specs.Promises.{AreRight}
use Rattle.lock_protocol.specs.Names.{IsName}
use Rattle.lock_names.specs.Names.{Bound, total}
use Rattle.lock_names.specs.Promises.{NoneHeld, AreDistinct, IsNamed}
use Rattle.lock_names.specs.Kept.{NamedView, named_of, IsKeptNamed}
use Rattle.lock_names.specs.Begun.{IsBegun}
use Rattle.lock_names.specs.Restored.{IsRestored}
use Rattle.lock_names.specs.Grown.{AreNextNames, IsGrown}
use Rattle.name_service.specs.declared.service.NameTerms.{NameTerms}
use Rattle.name_service.specs.Naming.{NamingView}
use Rattle.name_service.specs.Serving.{IsNameLineAnswered}

-- each name of a ring is spelled as one
abbrev pub AreSpelled : List (Option Bound) → Type 0
AreSpelled os = (ring : ℕ) (b : Bound) → slice_get os ring ≡ Some (Some b) → IsName b.name

-- what is so of names at every moment: they are right, and spelled as names; each grant was counted;
-- and there are no more rings than there may be
pub record AreRightNames (v : NamedView) : Type 0 where
  pub named : IsNamed (named_of v)
  pub spelled : AreSpelled v.names
  pub counted : total (locks_of v.locks) ≤ v.top
  pub few : length v.locks ≤ lock_limit

-- ---- laws: so it is where names begin or come back; over lines; and where the next segments begin
-- and the pool grows

abbrev pub BegunNamesAreRight : Type 0
BegunNamesAreRight =
    (vs : List LockView) (ns : List (List ℕ)) (v : NamedView) → AreRight (locks_of vs)
    → NoneHeld (locks_of vs) → AreDistinct ns → AllByRecursion IsName ns → length vs ≤ lock_limit
    → IsBegun vs ns v → AreRightNames v

abbrev pub RestoredNamesAreRight : Type 0
RestoredNamesAreRight =
    (vs : List LockView) (ns : List (List ℕ)) (os : List (Option Bound)) (top : ℕ) (v : NamedView)
    → AllByRecursion IsName ns → AreSpelled os → length vs ≤ lock_limit
    → IsRestored vs ns os top v → AreRightNames v

abbrev pub RightNamesStay : Type 0
RightNamesStay =
    (terms : NameTerms) (old new : NamingView) (lines : List (List ℕ)) (said noted : List ℕ)
    → AreRightNames old.named → Answers (IsNameLineAnswered terms) old lines said noted new
    → AreRightNames new.named × (old.named.top ≤ new.named.top)

abbrev pub RightNamesContinue : Type 0
RightNamesContinue =
    (old new : NamedView) → AreRightNames old → AreNextNames old new → AreRightNames new

abbrev pub RightNamesGrow : Type 0
RightNamesGrow =
    (old new : NamedView) (e : EndlessView) → AreRightNames old → IsGrown old new e
    → IsKeptNamed new → length new.locks ≤ lock_limit → AreRightNames new
