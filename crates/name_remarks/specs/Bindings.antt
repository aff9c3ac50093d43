-- What the lines of a segment record of the names of a folder (this project's own).
use Rattle.std.specs.Prelude.{◌≡◌, ℕ, suc, ◌<◌, List, [], ◌∷◌, ◌++◌, map, length, replicate, slice_get, slice_set, Option, None, Some, unwrap_or, ◌⊎◌, ◌↔◌}
use Rattle.std.specs.List.{AllByRecursion, flat_map}
use Rattle.name_remarks.specs.declared.recorded.NotTaken.{NotTaken}
use Rattle.name_remarks.specs.declared.recorded.NotTaken.TheVariants as fault
use Rattle.name_remarks.specs.Remarks.{Binding, Remark, bind, free, top, remark_text, Fits, IsRemark, BeginsAsOne}

-- how many grants there were of all rings where the segment begins, if a line says so; and how
-- each ring is bound, by its number
pub record Bindings : Type 0 where
  pub top : Option ℕ
  pub rings : List (Option Binding)

-- nothing is recorded, of n rings
abbrev pub nothing : ℕ → Bindings
nothing n = record { top = None; rings = replicate n None }

-- how a ring is bound
abbrev pub bound_at : List (Option Binding) → ℕ → Option Binding
bound_at rings ring = unwrap_or (slice_get rings ring) None

-- what is recorded after a remark
abbrev pub after : Bindings → Remark → Bindings
after t (bind ring b) = record { top = t.top; rings = slice_set t.rings ring (Some b) }
after t (free ring) = record { top = t.top; rings = slice_set t.rings ring None }
after t (top n) = record { top = Some n; rings = t.rings }

-- after some, one after the other
abbrev pub after_all : Bindings → List Remark → Bindings
after_all t [] = t
after_all t (r ∷ rs) = after_all (after t r) rs

-- ---- lines

-- the ring that it is about, if it is about one, is one of these
abbrev pub IsAmong : Remark → List (Option Binding) → Type 0
IsAmong (bind ring b) rings = ring < length rings
IsAmong (free ring) rings = ring < length rings
IsAmong (top n) rings = Unit {0}

-- A line is taken in: what it says of names; and nothing, if it does not begin as such a remark.
abbrev pub IsTakenIn : List ℕ → Bindings → Bindings → Type 0
IsTakenIn line old new =
    ((r : Remark) × (IsRemark r line × (IsAmong r old.rings × (new ≡ after old r))))
    ⊎ ((¬ BeginsAsOne line) × (new ≡ old))

-- lines are taken in, one after the other
abbrev pub AreTakenIn : List (List ℕ) → Bindings → Bindings → Type 0
AreTakenIn [] old new = new ≡ old
AreTakenIn (line ∷ lines) old new =
    (mid : Bindings) × (IsTakenIn line old mid × AreTakenIn lines mid new)

-- a remark is not taken in
abbrev pub IsNotHeard : Remark → Bindings → NotTaken → Type 0
IsNotHeard r old fault.Misspelled = ⊥
IsNotHeard r old fault.Ring = ¬ IsAmong r old.rings
IsNotHeard r old fault.OutOfMemory = (ring : ℕ) × (b : Binding) × (r ≡ bind ring b)

-- why a line is not taken in: it begins as a remark about names, and is not one; or it is about a
-- ring that is not there; or it is a binding, and there is no memory for the name
abbrev pub IsNotTakenIn : List ℕ → Bindings → NotTaken → Type 0
IsNotTakenIn line old fault.Misspelled = BeginsAsOne line × ((r : Remark) → ¬ IsRemark r line)
IsNotTakenIn line old fault.Ring = (r : Remark) × (IsRemark r line × (¬ IsAmong r old.rings))
IsNotTakenIn line old fault.OutOfMemory =
    (ring : ℕ) × (b : Binding) × IsRemark (bind ring b) line

-- The last of these lines is that of this remark. If it is a binding, its grant may be torn off.
pub record IsLast (lines : List (List ℕ)) (r : Remark) : Type 0 where
  pub front : List (List ℕ)
  pub line : List ℕ
  pub parts : lines ≡ front ++ line ∷ []
  pub is : IsRemark r line

-- ---- the beginning of a segment

abbrev pub tops : Option ℕ → List Remark
tops None = []
tops (Some n) = top n ∷ []

-- the bindings of these rings, of which the first has this number
abbrev pub binds : ℕ → List (Option Binding) → List Remark
binds ring [] = []
binds ring (None ∷ os) = binds (suc ring) os
binds ring (Some b ∷ os) = bind ring b ∷ binds (suc ring) os

-- with these remarks a segment begins: the grants of all rings, and then each ring that is bound
abbrev pub beginning : Bindings → List Remark
beginning t = tops t.top ++ binds 0 t.rings

abbrev pub text_of : List Remark → List ℕ
text_of remarks = flat_map remark_text remarks

-- ---- laws

-- it says something of this ring
abbrev pub IsAbout : ℕ → Remark → Type 0
IsAbout ring (bind i b) = i ≡ ring
IsAbout ring (free i) = i ≡ ring
IsAbout ring (top n) = ⊥

-- The last of these remarks that is about the ring binds it so.
pub record IsLastBinding (remarks : List Remark) (ring : ℕ) (b : Binding) : Type 0 where
  pub front : List Remark
  pub back : List Remark
  pub parts : remarks ≡ front ++ bind ring b ∷ back
  pub last : AllByRecursion (λ r. ¬ IsAbout ring r) back

-- a ring is bound just as the last remark about it says
abbrev pub LastBindings : Type 0
LastBindings =
    (n ring : ℕ) (b : Binding) (remarks : List Remark) → ring < n
    → (bound_at (after_all (nothing n) remarks).rings ring ≡ Some b)
    ↔ IsLastBinding remarks ring b

-- the lines with which a segment begins record just what it begins with
abbrev pub BeginningsRecordAll : Type 0
BeginningsRecordAll =
    (old new : Bindings) → AllByRecursion Fits (beginning old)
    → AreTakenIn (map remark_text (beginning old)) (nothing (length old.rings)) new
    ↔ (new ≡ old)

-- lines are taken in in one way
abbrev pub TakenInOneWay : Type 0
TakenInOneWay =
    (lines : List (List ℕ)) (old a b : Bindings) → AreTakenIn lines old a → AreTakenIn lines old b
    → a ≡ b

-- A last remark is taken in last: without its line there is what was recorded before it.
abbrev pub LastIsTakenLast : Type 0
LastIsTakenLast =
    (lines : List (List ℕ)) (old new : Bindings) (r : Remark) → AreTakenIn lines old new
    → (l : IsLast lines r)
    → (mid : Bindings) × (AreTakenIn l.front old mid × (IsAmong r mid.rings × (new ≡ after mid r)))
