-- Cells instead of values: the value that a read finds, the list after a write, and the words of a narrow mask in a wide one.
use Rattle.std.proofs.Common.{◌≡◌, ℕ, suc, ◌-◌, ◌/◌, ◌%◌, ◌<◌, ◌≤◌, ◌&&◌, Bool, true, false, cond, not, eqb, ltb, List, map, length, get_or, set, sym, ap, ◌∙◌, arith, inl, inr}
use Rattle.std.specs.Int.{bit_at}
use Rattle.std.proofs.lemmas.Bool.{cases_lt, eqb-true, not-true, not-false, le-ltb}
use Rattle.std.proofs.lemmas.List.{get_or-map, get_or_past, length-map, map-set}
use Rattle.std.proofs.lemmas.Nat.Bits.{bit_at-zero}
use Rattle.ring_model.specs.Ring.{Ring, ring_with, is_privileged, is_absent, written}
use Rattle.ring_model.proofs.Below.{every_fails}
use Rattle.ring_model.proofs.Places.{set_ring}
use Rattle.ring_model.proofs.PlainLoops.{present_at}
use Rattle.ring_lanes.specs.Masks.{IsMaskOf}
use Rattle.ring_state.specs.Sizes.{IsRingState}
use Rattle.std.proofs.lemmas.List.{length-set}

-- the value that a cell of the ring holds is below K
pub below_k : {X : Type 0} (f : X → ℕ) (k : ℕ) (xs : List X) (i : ℕ) (x : X) → IsRingState (ring_with k (map f xs)) → i < length (map f xs) → x ≡ get_or xs i x → f x < k
below_k f k xs i x r lt e =
    let same : length (map f xs) ≡ length xs = length-map xs f in
    let at : get_or (map f xs) i 0 ≡ f (get_or xs i x) = get_or-map f xs i x 0 (omega arith) in
    let here : f x ≡ f (get_or xs i x) = ap f e in
    let small : get_or (map f xs) i 0 < k = r.ring.below i lt in
    omega arith

-- a write into a cell is a write of its value
pub set_cell : {X : Type 0} (f : X → ℕ) (xs : List X) (i v : ℕ) (x : X) → f x ≡ v → map f (set xs i x) ≡ set (map f xs) i v
set_cell f xs i v x e = map-set f xs i x ∙ ap (set (map f xs) i) e

-- and leaves a ring of the same size
pub set_state : (r : Ring) (i v : ℕ) → IsRingState r → i < length r.values → v < r.k → IsRingState (written r i v)
set_state r i v g l small =
    let n : length (set r.values i v) ≡ length r.values = length-set r.values i v in
    let few = g.most_machines in
    let most' = g.most in
    record { ring = set_ring r i v g.ring l small; most_machines = omega arith; most = most' }

-- a value that is not absent is held
pub held_means : (s : List ℕ) (v : ℕ) (b : Bool) → b ≡ not (is_absent s v) → (b ≡ true → (k : ℕ) × (1 ≤ k) × (k < length s) × (get_or s k 0 ≡ v)) × (((k : ℕ) × (1 ≤ k) × (k < length s) × (get_or s k 0 ≡ v)) → b ≡ true)
held_means s v b e = (
  (λ t.
      let absent : is_absent s v ≡ false = not-true (is_absent s v) (sym e ∙ t) in
      let found = every_fails (λ i. not (eqb (get_or s (suc i) 0) v)) (length s - 1) absent in
      let low : found.0 < length s - 1 = found.1 in
      (suc found.0, omega arith, omega arith, eqb-true (get_or s (suc found.0) 0) v (not-false (eqb (get_or s (suc found.0) 0) v) found.2))),
  (λ found. e ∙ ap not (present_at s v found.0 found.1 found.2 found.3)),
)

-- the words of a mask for 256 machines and, after them, words of 0
pub widened : (s words out : List ℕ) → length s ≤ 256 → length words ≡ 4 → IsMaskOf 256 s words → ((w : ℕ) → w < 16 → get_or out w 0 ≡ get_or words w 0) → IsMaskOf 1024 s out
widened s words out few four narrow same i lt =
    let here : get_or out (i / 64) 0 ≡ get_or words (i / 64) 0 = same (i / 64) (omega arith) in
    ap (λ w. bit_at w (i % 64)) here ∙ elim (cases_lt i 256) [
      | inl le ↦ narrow i le
      | inr past ↦
          let none : get_or words (i / 64) 0 ≡ 0 = get_or_past words (i / 64) 0 (omega arith) in
          let off : ltb i (length s) ≡ false = le-ltb i (length s) (omega arith) in
          ap (λ w. bit_at w (i % 64)) none ∙ bit_at-zero (i % 64) ∙ sym (ap (λ b. cond {A = ℕ} (b && is_privileged s i) 1 0) off)
    ]
