-- The invariant of the loop of a group move.
use Rattle.std.proofs.Common.{◌≡◌, ℕ, suc, ◌+◌, ◌-◌, ◌<◌, ◌≤◌, true, List, [], ◌∷◌, length, get_or, drop, drop-cons, sym, ◌∙◌, ap, subst, arith}
use Rattle.std.proofs.lemmas.Bool.{cond-true, cond-false, eq-eqb, ne_eqb}
use Rattle.std.proofs.lemmas.List.{drop_all}
use Rattle.ring_model.specs.Ring.{Ring, is_privileged, moved, rest}
use Rattle.ring_model.specs.Groups.{GroupMove, least_left_out, move_order}
use Rattle.ring_model.specs.GroupLaws.{CanMove}
use Rattle.ring_model.proofs.Groups.{Walks, Walked}
use Rattle.ring_model.proofs.Orders.{order_length, order_able, group_start, group_turn, group_end}

-- the ring t has made the first moves of the group from s
pub record MovesTo (before : Ring) (machines : List ℕ) (t : Ring) (turn : ℕ) : Type 0 where
  pub done : List ℕ
  pub walks : Walks before (move_order machines) done (drop turn (move_order machines)) t
  pub falls : rest t ≤ rest before - turn

pub moves_start : (t : Ring) (machines : List ℕ) → CanMove t.values machines → MovesTo t machines t 0
moves_start t machines c = record { done = []; walks = group_start t machines c; falls = omega arith }

-- the machine whose turn it is can move
pub record CanTurn (t : Ring) (m : ℕ) : Type 0 where
  pub below : m < length t.values
  pub privileged : is_privileged t.values m ≡ true

in_turn : (before : Ring) (machines : List ℕ) (t : Ring) (turn : ℕ) (v : MovesTo before machines t turn) → turn < length machines →
    Walked before (move_order machines) v.done (get_or (move_order machines) turn 0) (drop (turn + 1) (move_order machines)) t
in_turn before machines t turn v l = let n : length (move_order machines) ≡ length machines = order_length machines in group_turn before (move_order machines) v.done turn t (omega arith) v.walks

pub can_turn : (before : Ring) (machines : List ℕ) (t : Ring) (turn m : ℕ) → CanMove before.values machines → MovesTo before machines t turn → turn < length machines →
    m ≡ get_or (move_order machines) turn 0 → CanTurn t m
can_turn before machines t turn m c v l e =
    let w = in_turn before machines t turn v l in
    subst (λ (x : ℕ). CanTurn t x) (sym e) (record { below = w.below; privileged = w.privileged ∙ order_able before.values machines c (get_or (move_order machines) turn 0) w.member })

pub moves_turn : (before : Ring) (machines : List ℕ) (t u : Ring) (turn m : ℕ) → MovesTo before machines t turn → turn < length machines →
    m ≡ get_or (move_order machines) turn 0 → u ≡ moved t m → rest u ≤ rest t - 1 → MovesTo before machines u (turn + 1)
moves_turn before machines t u turn m v l e q d =
    let w = in_turn before machines t turn v l in
    let falls' : rest t ≤ rest before - turn = v.falls in
    let to : u ≡ moved t (get_or (move_order machines) turn 0) = q ∙ ap (moved t) e in
    record {
      done = get_or (move_order machines) turn 0 ∷ v.done;
      walks = subst (λ (x : Ring). Walks before (move_order machines) (get_or (move_order machines) turn 0 ∷ v.done) (drop (turn + 1) (move_order machines)) x) (sym to) w.more;
      falls = omega arith;
    }

pub moves_end : (before : Ring) (machines : List ℕ) (t : Ring) (turn : ℕ) → CanMove before.values machines → MovesTo before machines t turn → length machines ≤ turn → GroupMove before machines t
moves_end before machines t turn c v l =
    let n : length (move_order machines) ≡ length machines = order_length machines in
    let none : drop turn (move_order machines) ≡ [] = drop_all turn (move_order machines) (omega arith) in
    group_end before machines v.done t c (subst (λ (x : List ℕ). Walks before (move_order machines) v.done x t) none v.walks)

-- the search for the least that is left out, one machine further
pub least_more : (machines : List ℕ) (i : ℕ) → i < length machines → get_or machines i 0 ≡ i → least_left_out i (drop i machines) ≡ least_left_out (i + 1) (drop (i + 1) machines)
least_more machines i l e =
    let one : suc i ≡ i + 1 = omega arith in
    ap (λ (x : List ℕ). least_left_out i x) (drop-cons machines i 0 l)
    ∙ (cond-true _ (least_left_out (suc i) (drop (suc i) machines)) i (eq-eqb (get_or machines i 0) i e) ∙ ap (λ x. least_left_out x (drop x machines)) one)

pub least_found : (machines : List ℕ) (i : ℕ) → i < length machines → (get_or machines i 0 ≡ i → ⊥) → least_left_out i (drop i machines) ≡ i
least_found machines i l ne =
    ap (λ (x : List ℕ). least_left_out i x) (drop-cons machines i 0 l)
    ∙ cond-false _ (least_left_out (suc i) (drop (suc i) machines)) i (ne_eqb (get_or machines i 0) i ne)
