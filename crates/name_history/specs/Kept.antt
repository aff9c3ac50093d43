-- Which of its bindings a ring had at a grant (this project's own).
use Rattle.std.specs.Prelude.{◌≡◌, ℕ, nat_lt, Bool, List, [], ◌∷◌, ◌++◌, Option, None}
use Rattle.std.specs.List.{filter, fold, last_or}
use Rattle.name_remarks.specs.Remarks.{Binding}

-- the ring had fewer grants than this when it was bound so
abbrev pub is_older : ℕ → Binding → Bool
is_older grants b = nat_lt b.before grants

-- the binding of the ring's grant of this number: the last one before which it had fewer grants
abbrev pub binding_at : List Binding → ℕ → Option Binding
binding_at bs grant = last_or None (filter (is_older grant) bs)

-- The bindings of a ring with one more. Those before which it had as many grants, or more, are gone:
-- no grant of the ring is theirs.
abbrev pub with_binding : List Binding → Binding → List Binding
with_binding bs b = filter (is_older b.before) bs ++ b ∷ []

-- what is kept of the bindings of a ring, in the order in which it was bound
abbrev pub kept : List Binding → List Binding
kept bs = fold with_binding [] bs

-- a law: of what is kept, each grant has the binding that it has of all
abbrev pub KeptAreEnough : Type 0
KeptAreEnough = (bs : List Binding) (grant : ℕ) → binding_at (kept bs) grant ≡ binding_at bs grant
