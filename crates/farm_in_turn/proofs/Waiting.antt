-- The seats that have an action left.
use Rattle.std.proofs.Common.{◌≡◌, ℕ, zero, suc, ◌+◌, ◌-◌, ◌<◌, ◌≤◌, List, [], ◌∷◌, drop, length, get_or, set, refl, sym, ap, ◌∙◌, arith}
use Rattle.std.proofs.lemmas.List.Sums.{sum_by-set, sum_by-cons}
use Rattle.rand_pcg.specs.Lcg.{Lcg}
use Rattle.ring_repairs.specs.Draws.{draw}
use Rattle.ring_repairs.proofs.Choices.{draw_less}
use Rattle.ring_settings.specs.declared.actions.Action.{Action}
use Rattle.farm_in_turn.specs.Turns.{left_of, count_left, waiting_from, waiting, next_seat, next_action, left_after, turns_within, turns}

pub waiting_none : (n : ℕ) → waiting_from n [] ≡ []
unfolding waiting_from
waiting_none n = refl

-- a seat with nothing left is none of them
pub waiting_past : (n : ℕ) (x : List Action) (left : List (List Action)) → x ≡ [] → waiting_from n (x ∷ left) ≡ waiting_from (n + 1) left
unfolding waiting_from
waiting_past n [] left e = refl
waiting_past n (a ∷ x) left e = cc

-- another is
pub waiting_here : (n : ℕ) (x : List Action) (left : List (List Action)) → (x ≡ [] → ⊥) → waiting_from n (x ∷ left) ≡ n ∷ waiting_from (n + 1) left
unfolding waiting_from
waiting_here n [] left ne = absurd (ne refl)
waiting_here n (a ∷ x) left ne = refl

-- the number of a seat is one of the seats, which has an action left
pub waiting_is : (n : ℕ) (left : List (List Action)) (i : ℕ) → i < length (waiting_from n left) →
    (n ≤ get_or (waiting_from n left) i 0) × (get_or (waiting_from n left) i 0 < n + length left)
    × (0 < length (get_or left (get_or (waiting_from n left) i 0 - n) []))
waiting_is n [] i lt = let no : length (waiting_from n []) ≡ 0 = ap length (waiting_none n) in absurd (omega arith)
waiting_is n ([] ∷ left) i lt = rw (waiting_past n [] left refl) (
    let more = waiting_is (n + 1) left i (omega (arith, ap length (waiting_past n [] left refl))) in
    let s : ℕ = get_or (waiting_from (n + 1) left) i 0 in
    let low = more.0 in
    let high = more.1 in
    let step : s - n ≡ suc (s - (n + 1)) = omega arith in
    (omega arith, omega arith, rw step more.2))
waiting_is n ((a ∷ x) ∷ left) zero lt = rw (waiting_here n (a ∷ x) left (λ h. cc)) (
    let same : n - n ≡ 0 = omega arith in
    (omega arith, omega arith, rw same (omega arith)))
waiting_is n ((a ∷ x) ∷ left) (suc i) lt = rw (waiting_here n (a ∷ x) left (λ h. cc)) (
    let more = waiting_is (n + 1) left i (omega (arith, ap length (waiting_here n (a ∷ x) left (λ h. cc)))) in
    let s : ℕ = get_or (waiting_from (n + 1) left) i 0 in
    let low = more.0 in
    let high = more.1 in
    let step : s - n ≡ suc (s - (n + 1)) = omega arith in
    (omega arith, omega arith, rw step more.2))

-- if there is none of them, no action is left
pub none_left : (n : ℕ) (left : List (List Action)) → waiting_from n left ≡ [] → count_left left ≡ 0
none_left n [] e = refl
none_left n ([] ∷ left) e =
    let more = none_left (n + 1) left (sym (waiting_past n [] left refl) ∙ e) in
    let sums = sum_by-cons (λ (actions : List Action). length actions) [] left in
    omega arith
none_left n ((a ∷ x) ∷ left) e = let no : n ∷ waiting_from (n + 1) left ≡ [] = sym (waiting_here n (a ∷ x) left (λ h. cc)) ∙ e in cc

-- and if an action is left, there is one
pub some_waiting : (left : List (List Action)) → 0 < count_left left → 0 < length (waiting left)
some_waiting left some = go (waiting left) refl
  where
    go : (w : List ℕ) → w ≡ waiting left → 0 < length w
    go [] e = let none = none_left 0 left (sym e) in absurd (omega arith)
    go (s ∷ w) e = omega arith

-- a turn takes one action
pub one_less : (left : List (List Action)) (seat : ℕ) → seat < length left → 0 < length (left_of left seat) → count_left left ≡ suc (count_left (left_after left seat))
one_less left seat within some =
    let own : List Action = left_of left seat in
    let sums = sum_by-set (λ (actions : List Action). length actions) left seat (drop 1 own) [] within in
    let fewer : length (drop 1 own) + 1 ≡ length own = go own some in
    omega arith
  where
    go : (xs : List Action) → 0 < length xs → length (drop 1 xs) + 1 ≡ length xs
    go [] lt = absurd (omega arith)
    go (x ∷ xs) lt = omega arith

-- the seat that is drawn
pub seat_drawn : (g : Lcg) (left : List (List Action)) → 0 < count_left left →
    ((next_seat g left).0 < length left) × (0 < length (left_of left (next_seat g left).0))
unfolding next_seat
seat_drawn g left some =
    let place : ℕ = (draw (length (waiting left)) g).0 in
    let within = draw_less (length (waiting left)) g (some_waiting left some) in
    let is = waiting_is 0 left place within in
    let s : ℕ = get_or (waiting left) place 0 in
    let same : s - 0 ≡ s = omega arith in
    let high = is.1 in
    (omega arith, rw same at is.2)

-- the turns while an action is left
pub turns_more : (g : Lcg) (left : List (List Action)) (next : ℕ × Lcg) → next ≡ next_seat g left → next.0 < length left → 0 < length (left_of left next.0) →
    turns g left ≡ record { seat = next.0; action = next_action left next.0 } ∷ turns next.1 (left_after left next.0)
unfolding turns_within
turns_more g left next e within some =
    let n : count_left left ≡ suc (count_left (left_after left next.0)) = one_less left next.0 within some in
    rw (n, e) refl

pub turns_none : (g : Lcg) (left : List (List Action)) → count_left left ≡ 0 → turns g left ≡ []
unfolding turns_within
turns_none g left e = rw e refl

-- they are no more than the seats
pub waiting_few : (n : ℕ) (left : List (List Action)) → length (waiting_from n left) ≤ length left
waiting_few n [] = let none = ap length (waiting_none n) in omega arith
waiting_few n ([] ∷ left) = let more = waiting_few (n + 1) left in let past = ap length (waiting_past n [] left refl) in omega arith
waiting_few n ((a ∷ x) ∷ left) = let more = waiting_few (n + 1) left in let here = ap length (waiting_here n (a ∷ x) left (λ h. cc)) in omega arith

-- the seat at the place that is drawn
pub seat_is : (g h : Lcg) (left : List (List Action)) (place seat : ℕ) → (place, h) ≡ draw (length (waiting left)) g → place < length (waiting left) → seat ≡ get_or (waiting left) place 0 →
    ((seat, h) ≡ next_seat g left) × (seat < length left) × (0 < length (left_of left seat))
unfolding next_seat
seat_is g h left place seat e within at =
    let is = waiting_is 0 left place within in
    let high = is.1 in
    let same : get_or (waiting left) place 0 - 0 ≡ seat = omega arith in
    let f : ℕ × Lcg → ℕ × Lcg = λ p. (get_or (waiting left) p.0 0, p.1) in
    (ap (λ (s : ℕ). (s, h)) at ∙ ap f e, omega arith, rw same at is.2)

-- the turns, if the next one is known
pub turn_taken : (g h : Lcg) (left : List (List Action)) (seat : ℕ) (a : Action) (rest : List Action) → (seat, h) ≡ next_seat g left → seat < length left → left_of left seat ≡ a ∷ rest →
    (turns g left ≡ record { seat = seat; action = a } ∷ turns h (set left seat rest)) × (count_left (set left seat rest) < count_left left)
turn_taken g h left seat a rest e within own =
    let some : 0 < length (left_of left seat) = rw own (omega arith) in
    let next : ℕ × Lcg = (seat, h) in
    let more = turns_more g left next e within some in
    let less = one_less left seat within some in
    let after : left_after left seat ≡ set left seat rest = ap (λ (xs : List Action). set left seat (drop 1 xs)) own in
    let first : next_action left seat ≡ a = rw own refl in
    (rw (first, after) at more, let fewer = rw after at less in omega arith)
