-- Which ring has a name, and which is free (this project's own).
use Rattle.std.specs.Prelude.{ℕ, zero, suc, if◌then◌else◌, List, [], ◌∷◌, Option, Some, None, option_map, ◌≡◌, ◌+◌, map, slice_get, ◌-◌}
use Rattle.std.specs.Str.{bytes_eq}

-- a name, with the numbers of grants that its ring, and all rings, had when it was bound
pub record Bound : Type 0 where
  pub name : List ℕ
  pub before : ℕ
  pub floor : ℕ

-- the same ring, with one before it
abbrev pub further : {X : Type 0} → Option (ℕ × X) → Option (ℕ × X)
further {X} o = option_map (λ (p : ℕ × X). (suc p.0, p.1)) o

-- the ring that has this name, and how it is bound
abbrev pub found : List ℕ → List (Option Bound) → Option (ℕ × Bound)
found x [] = None
found x (None ∷ os) = further (found x os)
found x (Some b ∷ os) = if bytes_eq x b.name then Some (zero, b) else further (found x os)

-- the lowest ring that has no name
abbrev pub free : List (Option Bound) → Option ℕ
free [] = None
free (None ∷ os) = Some zero
free (Some b ∷ os) = option_map suc (free os)

-- the ring of a name
abbrev pub ring_of : List ℕ → List (Option Bound) → Option ℕ
ring_of x os = option_map (λ (p : ℕ × Bound). p.0) (found x os)

-- no two rings have one name
abbrev pub AreNamedOnce : List (Option Bound) → Type 0
AreNamedOnce os =
    (i j : ℕ) (b d : Bound) → slice_get os i ≡ Some (Some b) → slice_get os j ≡ Some (Some d)
    → b.name ≡ d.name → i ≡ j

-- ---- tokens

-- the name's token of the ring's grant n
abbrev pub token_in : Bound → ℕ → ℕ
token_in b n = b.floor + (n - b.before)

-- the names of fixed locks, and n free rings
abbrev pub fixed_names : List (List ℕ) → List (Option Bound)
fixed_names ns = map (λ (n : List ℕ). Some (record { name = n; before = 0; floor = 0 })) ns

abbrev pub frees : ℕ → List (Option Bound)
frees zero = []
frees (suc n) = None ∷ frees n

-- no name is twice in the list
abbrev pub AreDistinct : List (List ℕ) → Type 0
AreDistinct ns =
    (i j : ℕ) (x : List ℕ) → slice_get ns i ≡ Some x → slice_get ns j ≡ Some x → i ≡ j
