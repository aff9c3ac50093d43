-- The order of a block's machines, as the test and as it is defined.
use Rattle.std.proofs.Common.{◌≡◌, ℕ, zero, suc, ◌+◌, ◌-◌, ◌<◌, ◌≤◌, List, [], ◌∷◌, ◌++◌, length, get_or, drop, Bool, true, false, cond, refl, sym, ◌∙◌, ap, arith, eqb}
use Rattle.std.specs.Prelude.{nat_lt, nat_le, ◌&&◌}
use Rattle.std.proofs.lemmas.Bool.Decides.{nat_tests}
use Rattle.std.proofs.lemmas.List.{drop_more}
use Rattle.ring_model.specs.Groups.{down_from, Falls, IsInOrder}
use Rattle.ring_check.specs.Members.{are_in_turn, least_of, is_in_order}
use Rattle.ring_check.proofs.Booleans.{both, joined, and_right, same, below, at_most, eq_true, eq_false, lt_true, le_true}

-- the lists that pass the test, and its meaning

-- the machines are x - 1 down to 0, and then these
pub record InTurn (low high x : ℕ) (ms : List ℕ) : Type 0 where
  pub back : List ℕ
  pub order : ms ≡ down_from x ++ back
  pub falls : Falls low high back

turn_means : (low high x : ℕ) (ms : List ℕ) → are_in_turn low high x ms ≡ true → InTurn low high x ms
turn_means low high zero [] e = record { back = []; order = refl; falls = tt }
turn_means low high zero (m ∷ ms) e =
    let p = both (nat_lt m high && nat_le low m) (are_in_turn low m zero ms) e in
    let q = both (nat_lt m high) (nat_le low m) p.0 in
    let t = turn_means low m zero ms p.1 in
    record { back = m ∷ t.back; order = ap (λ (u : List ℕ). m ∷ u) t.order; falls = (below m high q.0, at_most low m q.1, t.falls) }
turn_means low high (suc x) [] e = absurd (cc)
turn_means low high (suc x) (m ∷ ms) e =
    let p = both (eqb m x) (are_in_turn low high x ms) e in
    let t = turn_means low high x ms p.1 in
    record { back = t.back; order = ap (λ (k : ℕ). k ∷ ms) (same m x p.0) ∙ ap (λ (u : List ℕ). x ∷ u) t.order; falls = t.falls }

turn_true : (low high x : ℕ) (back : List ℕ) → Falls low high back → are_in_turn low high x (down_from x ++ back) ≡ true
turn_true low high zero [] f = refl
turn_true low high zero (m ∷ back) f =
    joined (nat_lt m high && nat_le low m) (are_in_turn low m zero back) (joined (nat_lt m high) (nat_le low m) (lt_true m high f.0) (le_true low m f.1)) (turn_true low m zero back f.2)
turn_true low high (suc x) back f = joined (eqb x x) (are_in_turn low high x (down_from x ++ back)) (eq_true x x refl) (turn_true low high x back f)

-- the least machine left out

falls_some : (low high : ℕ) (ms : List ℕ) (i : ℕ) → Falls low high ms → 1 ≤ low → 1 ≤ get_or ms i 1
falls_some low high [] i f l = omega arith
falls_some low high (m ∷ ms) zero f l = let b : low ≤ m = f.1 in omega arith
falls_some low high (m ∷ ms) (suc i) f l = falls_some low m ms i f.2 l

down_at : (y : ℕ) (back : List ℕ) → get_or (down_from (suc y) ++ back) y 1 ≡ 0
down_at zero back = refl
down_at (suc y) back = down_at y back

none_test : (x first : ℕ) → 1 ≤ x → cond {A = ℕ} (eqb x 0) (first + 1) 0 ≡ 0
none_test zero first l = absurd (omega arith)
none_test (suc x) first l = let f : eqb (suc x) 0 ≡ false = grind (arith, nat_tests) in rw f refl

least_is : (n x : ℕ) (back : List ℕ) → Falls (suc x) n back → least_of (down_from x ++ back) ≡ x
least_is n zero back f = none_test (get_or back (get_or back 0 0) 1) (get_or back 0 0) (falls_some 1 n back (get_or back 0 0) f (omega arith))
least_is n (suc y) back f = let e : get_or (down_from (suc y) ++ back) y 1 ≡ 0 = down_at y back in rw e (omega arith)

-- the test says what is defined, where there is a machine

pub order_means : (n : ℕ) (ms : List ℕ) → 1 ≤ length ms → is_in_order n ms ≡ true → IsInOrder n ms
order_means n ms some e =
    let p = both (nat_lt (least_of ms) n) (are_in_turn (suc (least_of ms)) n (least_of ms) ms) e in
    let t = turn_means (suc (least_of ms)) n (least_of ms) ms p.1 in
    record { least = least_of ms; machine = below (least_of ms) n p.0; back = t.back; order = t.order; falls = t.falls; some = some }

pub order_true : (n : ℕ) (ms : List ℕ) → IsInOrder n ms → is_in_order n ms ≡ true
order_true n ms o =
    let least : least_of (down_from o.least ++ o.back) ≡ o.least = least_is n o.least o.back o.falls in
    let turn : are_in_turn (suc o.least) n o.least (down_from o.least ++ o.back) ≡ true = turn_true (suc o.least) n o.least o.back o.falls in
    let all : is_in_order n (down_from o.least ++ o.back) ≡ true =
    ap (λ (x : ℕ). nat_lt x n && are_in_turn (suc x) n x (down_from o.least ++ o.back)) least
    ∙ joined (nat_lt o.least n) _ (lt_true o.least n o.machine) turn in
    ap (λ (u : List ℕ). is_in_order n u) o.order ∙ all

-- the loop of the code: one machine after the other

zero_within : (ms : List ℕ) (i : ℕ) → get_or ms i 1 ≡ 0 → i < length ms
zero_within [] i e = absurd (omega arith)
zero_within (m ∷ ms) zero e = omega arith
zero_within (m ∷ ms) (suc i) e = let l = zero_within ms i e in omega arith

-- the first machine names a turn that the machines have, or machine 0 is not there
pub least_few : (ms : List ℕ) → 1 ≤ length ms → least_of ms ≤ length ms
least_few ms some = go (eqb (get_or ms (get_or ms 0 0) 1) 0) refl
  where
    go : (b : Bool) → eqb (get_or ms (get_or ms 0 0) 1) 0 ≡ b → cond {A = ℕ} b (get_or ms 0 0 + 1) 0 ≤ length ms
    go true e = let l = zero_within ms (get_or ms 0 0) (same (get_or ms (get_or ms 0 0) 1) 0 e) in omega arith
    go false e = omega arith

turn_down : (low high least turn : ℕ) (ms : List ℕ) → turn < length ms → turn < least →
    are_in_turn low high (least - turn) (drop turn ms) ≡ (eqb (get_or ms turn 0) (least - 1 - turn) && are_in_turn low high (least - (turn + 1)) (drop (turn + 1) ms))
turn_down low high least turn ms l t =
    let s : least - turn ≡ suc (least - 1 - turn) = omega arith in
    let r : least - (turn + 1) ≡ least - 1 - turn = omega arith in
    ap (λ (u : List ℕ). are_in_turn low high (least - turn) u) (drop_more ms turn 0 l)
    ∙ ap (λ (x : ℕ). are_in_turn low high x (get_or ms turn 0 ∷ drop (turn + 1) ms)) s
    ∙ ap (λ (x : ℕ). eqb (get_or ms turn 0) (least - 1 - turn) && are_in_turn low high x (drop (turn + 1) ms)) (sym r)

turn_back : (low high least turn : ℕ) (ms : List ℕ) → turn < length ms → least ≤ turn →
    are_in_turn low high (least - turn) (drop turn ms)
    ≡ ((nat_lt (get_or ms turn 0) high && nat_le low (get_or ms turn 0)) && are_in_turn low (get_or ms turn 0) (least - (turn + 1)) (drop (turn + 1) ms))
turn_back low high least turn ms l t =
    let s : least - turn ≡ zero = omega arith in
    let r : least - (turn + 1) ≡ zero = omega arith in
    ap (λ (u : List ℕ). are_in_turn low high (least - turn) u) (drop_more ms turn 0 l)
    ∙ ap (λ (x : ℕ). are_in_turn low high x (get_or ms turn 0 ∷ drop (turn + 1) ms)) s
    ∙ ap (λ (x : ℕ). (nat_lt (get_or ms turn 0) high && nat_le low (get_or ms turn 0)) && are_in_turn low (get_or ms turn 0) x (drop (turn + 1) ms)) (sym r)

module _ (least high turn : ℕ) (ms : List ℕ) (within : turn < length ms) where
  -- a machine in its turn, and one that is not
  pub down_on : turn < least → get_or ms turn 0 ≡ least - 1 - turn →
      are_in_turn (suc least) high (least - turn) (drop turn ms) ≡ are_in_turn (suc least) high (least - (turn + 1)) (drop (turn + 1) ms)
  down_on t e = turn_down (suc least) high least turn ms within t
      ∙ ap (λ (b : Bool). b && are_in_turn (suc least) high (least - (turn + 1)) (drop (turn + 1) ms)) (eq_true (get_or ms turn 0) (least - 1 - turn) e)

  pub down_off : turn < least → (get_or ms turn 0 ≡ least - 1 - turn → ⊥) → are_in_turn (suc least) high (least - turn) (drop turn ms) ≡ false
  down_off t e = turn_down (suc least) high least turn ms within t
      ∙ ap (λ (b : Bool). b && are_in_turn (suc least) high (least - (turn + 1)) (drop (turn + 1) ms)) (eq_false (get_or ms turn 0) (least - 1 - turn) e)

  pub back_on : least ≤ turn → get_or ms turn 0 < high → least < get_or ms turn 0 →
      are_in_turn (suc least) high (least - turn) (drop turn ms) ≡ are_in_turn (suc least) (get_or ms turn 0) (least - (turn + 1)) (drop (turn + 1) ms)
  back_on t a b = turn_back (suc least) high least turn ms within t
      ∙ ap (λ (x : Bool). x && are_in_turn (suc least) (get_or ms turn 0) (least - (turn + 1)) (drop (turn + 1) ms))
      (joined (nat_lt (get_or ms turn 0) high) (nat_le (suc least) (get_or ms turn 0)) (lt_true (get_or ms turn 0) high a) (le_true (suc least) (get_or ms turn 0) (omega arith)))

-- the test fails where a machine is not in its turn
pub order_false : (n least : ℕ) (ms : List ℕ) → least ≡ least_of ms → are_in_turn (suc least) n least ms ≡ false → is_in_order n ms ≡ false
order_false n least ms e f =
    ap (λ (x : ℕ). nat_lt x n && are_in_turn (suc x) n x ms) (sym e) ∙ and_right (nat_lt least n) (are_in_turn (suc least) n least ms) f
