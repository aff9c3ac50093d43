-- The bindings of rings that lines say (this project's own).
use Rattle.std.specs.Prelude.{◌≡◌, ℕ, ◌<◌, ◌==◌, cond, List, [], ◌∷◌, length, slice_get, Option, None, Some}
use Rattle.name_remarks.specs.Remarks.{Binding, Remark, bind, IsRemark}
use Rattle.name_history.specs.Kept.{kept}

-- a ring, and how it was bound
abbrev pub RingBinding : Type 0
RingBinding = ℕ × Binding

-- what a remark binds, if it binds a ring
abbrev pub binding_of : Remark → Option RingBinding
binding_of (bind ring b) = Some (ring, b)
binding_of _ = None

-- the line binds this ring so, if it binds one
abbrev pub IsSaid : List ℕ → Option RingBinding → Type 0
IsSaid line None = (ring : ℕ) (b : Binding) → ¬ IsRemark (bind ring b) line
IsSaid line (Some e) = IsRemark (bind e.0 e.1) line

-- one more, if there is one
abbrev pub with_said : Option RingBinding → List RingBinding → List RingBinding
with_said None es = es
with_said (Some e) es = e ∷ es

-- lines say these bindings, in their order
abbrev pub AreSaid : List (List ℕ) → List RingBinding → Type 0
AreSaid [] es = es ≡ []
AreSaid (line ∷ lines) es =
    (first : Option RingBinding)
    × (more : List RingBinding)
    × IsSaid line first
    × AreSaid lines more
    × (es ≡ with_said first more)

-- those of the ring of this number
abbrev pub of_ring : ℕ → List RingBinding → List Binding
of_ring ring [] = []
of_ring ring (e ∷ es) = cond (e.0 == ring) (e.1 ∷ of_ring ring es) (of_ring ring es)

-- what is kept of the bindings of each of n rings
pub record AreKept (rings : ℕ) (said : List RingBinding) (each : List (List Binding)) : Type 0
  where
    pub many : length each ≡ rings
    pub each_ring : (ring : ℕ) → ring < rings → slice_get each ring ≡ Some (kept (of_ring ring said))
