-- A rising list of machines, in the order of the moves.
use Rattle.std.proofs.Common.{◌≡◌, ℕ, zero, suc, ◌+◌, ◌-◌, ◌<◌, ◌≤◌, Bool, true, false, List, [], ◌∷◌, ◌++◌, length, get_or, drop, drop-cons, reverse, length-append, length-drop, refl, sym, ◌∙◌, ap, subst, inl, inr, arith, eqb}
use Rattle.std.specs.Prelude.{◌⊎◌, ◌||◌}
use Rattle.std.proofs.lemmas.Bool.{cases_eq, cond-true, cond-false, eq-eqb, ne_eqb, or_left, or_right}
use Rattle.std.proofs.lemmas.List.{reverse-append, length-reverse, get_or-reverse, get_or-drop}
use Rattle.std.proofs.Math.ListN.{get_or-append}
use Rattle.std.proofs.Math.Seq.{get_or-append_right}
use Rattle.ring_model.specs.Groups.{has, down_from, Falls, Rises, least_left_out, move_order, GroupMove}
use Rattle.ring_model.specs.Ring.{Ring}
use Rattle.ring_model.specs.GroupLaws.{IsOrderOf, MoveOrder, CanMove, AreAllPrivileged}
use Rattle.ring_model.proofs.Groups.{has_later, has_parts, has_append, down_has, or_cases', Walks, Walked, walk, walk_start, walk_end, group_done}

same_tests : (a b : Bool) → (a ≡ true → b ≡ true) → (b ≡ true → a ≡ true) → a ≡ b
same_tests true b f g = sym (f refl)
same_tests false true f g = g refl
same_tests false false f g = refl

pub has_reverse : (ms : List ℕ) (k : ℕ) → has (reverse ms) k ≡ has ms k
has_reverse [] k = refl
has_reverse (m ∷ ms) k =
    ap (λ (x : List ℕ). has x k) (reverse-append (m ∷ []) ms)
    ∙ (has_append (reverse ms) (m ∷ []) k ∙ (ap (λ (b : Bool). b || has (m ∷ []) k) (has_reverse ms k) ∙ flip (has ms k) (eqb k m)))
  where
    flip : (a b : Bool) → (a || (b || false)) ≡ (b || a)
    flip true true = refl
    flip true false = refl
    flip false true = refl
    flip false false = refl

falls_append : (low m high : ℕ) (xs : List ℕ) → Falls (suc m) high xs → low ≤ m → m < high → Falls low high (xs ++ m ∷ [])
falls_append low m high [] f l h = (h, l, tt)
falls_append low m high (x ∷ xs) f l h = let a : suc m ≤ x = f.1 in (f.0, omega arith, falls_append low m x xs f.2 l (omega arith))

pub falls_reverse : (low high : ℕ) (ms : List ℕ) → Rises low high ms → Falls low high (reverse ms)
falls_reverse low high [] r = tt
falls_reverse low high (m ∷ ms) r = subst (λ (x : List ℕ). Falls low high x) (sym (reverse-append (m ∷ []) ms))
    (falls_append low m high (reverse ms) (falls_reverse (suc m) high ms r.2) r.0 r.1)

-- y is the least number from x on that the rising list leaves out: the list is x to y - 1, and then what is greater than y
pub record Leads (x high : ℕ) (ms : List ℕ) (y : ℕ) : Type 0 where
  pub gone : ℕ
  pub sum : x + gone ≡ y
  pub few : gone ≤ length ms
  pub rises : Rises (suc y) high (drop gone ms)
  pub in_front : (k : ℕ) → x ≤ k → k < y → has ms k ≡ true
  pub behind : (k : ℕ) → has (drop gone ms) k ≡ true → has ms k ≡ true
  pub parts : (k : ℕ) → has ms k ≡ true → (k < y) ⊎ (has (drop gone ms) k ≡ true)

pub leads : (x high : ℕ) (ms : List ℕ) → Rises x high ms → Leads x high ms (least_left_out x ms)
leads x high [] r = record {
  gone = 0;
  sum = omega arith;
  few = omega arith;
  rises = tt;
  in_front = λ k l m. absurd (omega arith);
  behind = λ k h. h;
  parts = λ k h. inr h;
}
leads x high (m ∷ ms) r = elim (cases_eq m x) [
  | inl q ↦
      let e : least_left_out x (m ∷ ms) ≡ least_left_out (suc x) ms = cond-true (eqb m x) (least_left_out (suc x) ms) x (eq-eqb m x q) in
      let r' : Rises (suc x) high ms = subst (λ (z : ℕ). Rises (suc z) high ms) q r.2 in
      let t = leads (suc x) high ms r' in
      let s : suc x + t.gone ≡ least_left_out (suc x) ms = t.sum in
      let f : t.gone ≤ length ms = t.few in
      subst (λ (y : ℕ). Leads x high (m ∷ ms) y) (sym e) (record {
        gone = suc t.gone;
        sum = omega arith;
        few = omega arith;
        rises = t.rises;
        in_front = λ k l b. elim (cases_eq k m) [
          | inl z ↦ or_left (eqb k m) (has ms k) (eq-eqb k m z)
          | inr ne ↦ has_later m k ms (t.in_front k (omega arith) b)
        ];
        behind = λ k h. has_later m k ms (t.behind k h);
        parts = λ k h. elim (has_parts m k ms h) [
          | inl z ↦ inl (omega arith)
          | inr b ↦ t.parts k b
        ];
      })
  | inr ne ↦
      let e : least_left_out x (m ∷ ms) ≡ x = cond-false (eqb m x) (least_left_out (suc x) ms) x (ne_eqb m x ne) in
      let low : x ≤ m = r.0 in
      subst (λ (y : ℕ). Leads x high (m ∷ ms) y) (sym e) (record {
        gone = 0;
        sum = omega arith;
        few = omega arith;
        rises = (omega arith, r.1, r.2);
        in_front = λ k l b. absurd (omega arith);
        behind = λ k h. h;
        parts = λ k h. inr h;
      })
]

pub down_length : (x : ℕ) → length (down_from x) ≡ x
down_length zero = refl
down_length (suc x) = ap suc (down_length x)

down_all : (x k : ℕ) → k < x → has (down_from x) k ≡ true
down_all zero k l = absurd (omega arith)
down_all (suc x) k l = elim (cases_eq k x) [
  | inl e ↦ or_left (eqb k x) (has (down_from x) k) (eq-eqb k x e)
  | inr ne ↦ has_later x k (down_from x) (down_all x k (omega arith))
]

least_most : (x : ℕ) (ms : List ℕ) → least_left_out x ms ≤ x + length ms
least_most x [] = omega arith
least_most x (m ∷ ms) = elim (cases_eq m x) [
  | inl q ↦
      let e : least_left_out x (m ∷ ms) ≡ least_left_out (suc x) ms = cond-true (eqb m x) (least_left_out (suc x) ms) x (eq-eqb m x q) in
      let ih : least_left_out (suc x) ms ≤ suc x + length ms = least_most (suc x) ms in
      omega arith
  | inr ne ↦ let e : least_left_out x (m ∷ ms) ≡ x = cond-false (eqb m x) (least_left_out (suc x) ms) x (ne_eqb m x ne) in omega arith
]

pub least_few : (machines : List ℕ) → least_left_out 0 machines ≤ length machines
least_few machines = let le : least_left_out 0 machines ≤ 0 + length machines = least_most 0 machines in omega arith

pub order_length : (machines : List ℕ) → length (move_order machines) ≡ length machines
order_length machines =
    let x : ℕ = least_left_out 0 machines in
    let few : x ≤ length machines = least_few machines in
    let a : length (move_order machines) ≡ length (down_from x) + length (reverse (drop x machines)) = length-append (down_from x) (reverse (drop x machines)) in
    let b : length (down_from x) ≡ x = down_length x in
    let c : length (reverse (drop x machines)) ≡ length (drop x machines) = length-reverse (drop x machines) in
    let d : length (drop x machines) ≡ length machines - x = length-drop x machines in
    omega arith

pub move_order_law : MoveOrder
move_order_law n machines r some few =
    let x : ℕ = least_left_out 0 machines in
    let t = leads 0 n machines r in
    let s : t.gone ≡ x = let z : 0 + t.gone ≡ x = t.sum in omega arith in
    let le : x ≤ length machines = least_few machines in
    let size : length (move_order machines) ≡ length machines = order_length machines in
    let rises : Rises (suc x) n (drop x machines) = subst (λ (g : ℕ). Rises (suc x) n (drop g machines)) s t.rises in
    record {
      in_order = record {
        least = x;
        machine = omega arith;
        back = reverse (drop x machines);
        order = refl;
        falls = falls_reverse (suc x) n (drop x machines) rises;
        some = omega arith;
      };
      size = size;
      same = λ k.
          let all : has (move_order machines) k ≡ (has (down_from x) k || has (reverse (drop x machines)) k) = has_append (down_from x) (reverse (drop x machines)) k in
          let turned : has (reverse (drop x machines)) k ≡ has (drop x machines) k = has_reverse (drop x machines) k in
          let dropped : has (drop t.gone machines) k ≡ has (drop x machines) k = ap (λ (g : ℕ). has (drop g machines) k) s in
          same_tests (has (move_order machines) k) (has machines k)
          (λ h. elim (or_cases' (has (down_from x) k) (has (reverse (drop x machines)) k) (sym all ∙ h)) [
            | inl a ↦ t.in_front k (omega arith) (down_has x k a)
            | inr b ↦ t.behind k (dropped ∙ (sym turned ∙ b))
          ])
          (λ h. all ∙ elim (t.parts k h) [
            | inl l ↦ or_left (has (down_from x) k) (has (reverse (drop x machines)) k) (down_all x k l)
            | inr b ↦ or_right (has (down_from x) k) (has (reverse (drop x machines)) k) (turned ∙ (sym dropped ∙ b))
          ]);
    }

-- the machine whose turn it is

pub down_at : (x i : ℕ) → i < x → get_or (down_from x) i 0 ≡ x - 1 - i
down_at zero i l = absurd (omega arith)
down_at (suc x) zero l = omega arith
down_at (suc x) (suc i) l = let ih : get_or (down_from x) i 0 ≡ x - 1 - i = down_at x i (omega arith) in omega arith

leading : (x : ℕ) (ms : List ℕ) (i : ℕ) → x + i < least_left_out x ms → get_or ms i 0 ≡ x + i
leading x [] i l = absurd (omega arith)
leading x (m ∷ ms) zero l = elim (cases_eq m x) [
  | inl q ↦ omega arith
  | inr ne ↦ let e : least_left_out x (m ∷ ms) ≡ x = cond-false (eqb m x) (least_left_out (suc x) ms) x (ne_eqb m x ne) in absurd (omega arith)
]
leading x (m ∷ ms) (suc i) l = elim (cases_eq m x) [
  | inl q ↦
      let e : least_left_out x (m ∷ ms) ≡ least_left_out (suc x) ms = cond-true (eqb m x) (least_left_out (suc x) ms) x (eq-eqb m x q) in
      let ih : get_or ms i 0 ≡ suc x + i = leading (suc x) ms i (omega arith) in
      omega arith
  | inr ne ↦ let e : least_left_out x (m ∷ ms) ≡ x = cond-false (eqb m x) (least_left_out (suc x) ms) x (ne_eqb m x ne) in absurd (omega arith)
]

pub order_front : (ms : List ℕ) (i : ℕ) → i < least_left_out 0 ms → get_or (move_order ms) i 0 ≡ get_or ms (least_left_out 0 ms - 1 - i) 0
order_front ms i l =
    let x : ℕ = least_left_out 0 ms in
    let n : length (down_from x) ≡ x = down_length x in
    let a : get_or (move_order ms) i 0 ≡ get_or (down_from x) i 0 = get_or-append (down_from x) (reverse (drop x ms)) 0 i (omega arith) in
    let b : get_or (down_from x) i 0 ≡ x - 1 - i = down_at x i l in
    let c : get_or ms (x - 1 - i) 0 ≡ 0 + (x - 1 - i) = leading 0 ms (x - 1 - i) (omega arith) in
    omega arith

pub order_back : (ms : List ℕ) (i : ℕ) → least_left_out 0 ms ≤ i → i < length ms → get_or (move_order ms) i 0 ≡ get_or ms (length ms - 1 - (i - least_left_out 0 ms)) 0
order_back ms i g l =
    let x : ℕ = least_left_out 0 ms in
    let n : length (down_from x) ≡ x = down_length x in
    let d : length (drop x ms) ≡ length ms - x = length-drop x ms in
    let a : get_or (move_order ms) i 0 ≡ get_or (reverse (drop x ms)) (i - length (down_from x)) 0 = get_or-append_right (down_from x) (reverse (drop x ms)) i 0 (omega arith) in
    let b : get_or (reverse (drop x ms)) (i - x) 0 ≡ get_or (drop x ms) (length (drop x ms) - 1 - (i - x)) 0 = get_or-reverse (drop x ms) (i - x) 0 (omega arith) in
    let c : get_or (drop x ms) (length (drop x ms) - 1 - (i - x)) 0 ≡ get_or ms (x + (length (drop x ms) - 1 - (i - x))) 0 = get_or-drop x ms (length (drop x ms) - 1 - (i - x)) 0 in
    let e : x + (length (drop x ms) - 1 - (i - x)) ≡ length ms - 1 - (i - x) = omega arith in
    a ∙ (ap (λ (z : ℕ). get_or (reverse (drop x ms)) (i - z) 0) n ∙ (b ∙ (c ∙ ap (λ (z : ℕ). get_or ms z 0) e)))

-- a loop along the order of a group that can move

pub group_of : (s machines : List ℕ) → CanMove s machines → IsOrderOf (length s) machines (move_order machines)
group_of s machines c = move_order_law (length s) machines c.rising c.some c.fewer

pub order_able : (s machines : List ℕ) → CanMove s machines → AreAllPrivileged s (move_order machines)
order_able s machines c = λ i h. c.able i (sym ((group_of s machines c).same i) ∙ h)

pub group_start : (before : Ring) (machines : List ℕ) → CanMove before.values machines → Walks before (move_order machines) [] (move_order machines) before
group_start before machines c = let fewer' = c.fewer in walk_start before (move_order machines) (omega arith) (group_of before.values machines c).in_order

pub group_turn : (before : Ring) (order done : List ℕ) (i : ℕ) (u : Ring) → i < length order → Walks before order done (drop i order) u →
    Walked before order done (get_or order i 0) (drop (i + 1) order) u
group_turn before order done i u l w =
    let one : suc i ≡ i + 1 = omega arith in
    let cut : drop i order ≡ get_or order i 0 ∷ drop (i + 1) order = drop-cons order i 0 l ∙ ap (λ x. get_or order i 0 ∷ drop x order) one in
    walk before order done (get_or order i 0) (drop (i + 1) order) u (subst (λ (x : List ℕ). Walks before order done x u) cut w)

pub group_move_like : (before : Ring) (ms machines : List ℕ) (t : Ring) → length ms ≡ length machines → ((i : ℕ) → has ms i ≡ has machines i) → GroupMove before ms t → GroupMove before machines t
group_move_like before ms machines t n same g =
    let some' = g.some in
    record {
      some = omega arith;
      leaves_out = (g.leaves_out.0, g.leaves_out.1, sym (same g.leaves_out.0) ∙ g.leaves_out.2);
      privileged = λ i h. g.privileged i (same i ∙ h);
      same = g.same;
      size = g.size;
      values = λ i l. rw (← same i) (g.values i l);
    }

pub group_end : (before : Ring) (machines done : List ℕ) (u : Ring) → CanMove before.values machines → Walks before (move_order machines) done [] u → GroupMove before machines u
group_end before machines done u c w =
    let o = group_of before.values machines c in
    group_move_like before (move_order machines) machines u o.size o.same
    (group_done before (move_order machines) u o.in_order (order_able before.values machines c) (walk_end before (move_order machines) done u w))
