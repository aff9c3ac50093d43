-- The answers that a move and a write rule out.
use Rattle.std.proofs.Common.{◌≡◌, ℕ, zero, suc, ◌<◌, true, false, not, cond, List, length, get_or, sym, ◌∙◌, ap, inl, inr, eqb, arith, get_or-set_same}
use Rattle.std.specs.Prelude.{slice_index}
use Rattle.std.proofs.lemmas.Bool.{both_ways, eq-eqb, not_from_true}
use Rattle.ring_model.specs.Ring.{Ring, IsRing, is_privileged, moved, moved_value, written}
use Rattle.ring_model.specs.Groups.{GroupMove, has}
use Rattle.ring_model.proofs.Below.{wrap}
use Rattle.ring_model.proofs.Moves.{mover_loses}

-- a move leads to another ring
pub moved_is_other : (r : Ring) (i : ℕ) → IsRing r → i < length r.values → is_privileged r.values i ≡ true → r ≡ moved r i → ⊥
moved_is_other r i g l on same =
    both_ways (is_privileged (moved r i).values i) (mover_loses r i g l on) (ap (λ (t : Ring). is_privileged t.values i) (sym same) ∙ on)

-- and changes the value of its machine
move_changes : (r : Ring) (i : ℕ) → IsRing r → i < length r.values → is_privileged r.values i ≡ true → moved_value r i ≡ slice_index r.values i → ⊥
move_changes r zero g l on same =
    let small : get_or r.values 0 0 < r.k = g.below 0 l in
    let two = g.two in
    let enough = g.enough in
    elim (wrap r.k (get_or r.values 0 0) 1 small (omega arith)) [ inl w ↦ omega arith | inr w ↦ omega arith ]
move_changes r (suc i) g l on same =
    let found : eqb (get_or r.values i 0) (get_or r.values (suc i) 0) ≡ true = eq-eqb (get_or r.values i 0) (get_or r.values (suc i) 0) same in
    both_ways (not (eqb (get_or r.values i 0) (get_or r.values (suc i) 0))) (not_from_true (eqb (get_or r.values i 0) (get_or r.values (suc i) 0)) found) on

-- a group that lacks a machine does not make the group's move
pub fewer_do_not_do : (r t : Ring) (machines fewer : List ℕ) (m : ℕ) → IsRing r → has machines m ≡ true → has fewer m ≡ false → GroupMove r fewer t → GroupMove r machines t → ⊥
fewer_do_not_do r t machines fewer m g one out h k =
    let able = k.privileged m one in
    let stays : slice_index t.values m ≡ slice_index r.values m = h.values m able.0 ∙ ap (λ b. cond {A = ℕ} b (moved_value r m) (slice_index r.values m)) out in
    let moves : slice_index t.values m ≡ moved_value r m = k.values m able.0 ∙ ap (λ b. cond {A = ℕ} b (moved_value r m) (slice_index r.values m)) one in
    move_changes r m g able.0 able.1 (sym moves ∙ stays)

-- the written value is the given one
pub one_value : (r : Ring) (i v u : ℕ) → i < length r.values → written r i v ≡ written r i u → v ≡ u
one_value r i v u l e = sym (get_or-set_same r.values i v 0 l) ∙ (ap (λ (t : Ring). get_or t.values i 0) e ∙ get_or-set_same r.values i u 0 l)
