-- The lead (S0 is the value of machine 0): some value is free, which is the one use of K at least n; a copy does not raise the lead;
-- a step of machine 0 in a ring that is not settled lowers it.
use Rattle.std.proofs.Common.{◌≡◌, ℕ, zero, suc, ◌+◌, ◌-◌, ◌%◌, ◌<◌, ◌≤◌, ◌≢◌, Bool, true, false, not, ◌&&◌, ◌||◌, List, length, get_or, refl, sym, ◌∙◌, ap, inl, inr, arith, eqb}
use Rattle.std.proofs.lemmas.Bool.{cases_eq, cases_lt, cases_Bool, eq-eqb, eqb-true, eqb-false, ne_eqb, cond-true, cond-false, cond_both, not_from_true, not_from_false, not-true, not-false, or_cases, or_left, or_right, or_parts, both_ways, false_from_ne_true}
use Rattle.std.proofs.Math.Nat.{add-mod_left, mod-eq_of_lt}
use Rattle.ring_model.specs.Numbers.{every_below, sum_below, bit, count_below, least}
use Rattle.ring_model.specs.Ring.{Ring, IsRing, is_privileged, moved, privileged_count, is_settled, is_absent, first_value_is_prefix, lead}
use Rattle.ring_model.proofs.Below.{sum_only, sum_zero, sum_le, sum_add, bit_at, wrap, wrap_injective, every_at, every_from, every_fails, count_fails, count_one, least_from, least_le, least_passes, least_more}
use Rattle.ring_model.proofs.Moves.{length_move, at_mover, at_other, last_is_first}

-- the tests in words

abbrev pub IsAbsent : List ℕ → ℕ → Type 0
IsAbsent s v = (k : ℕ) → suc k < length s → get_or s (suc k) 0 ≢ v

abbrev pub IsFront : List ℕ → Type 0
IsFront s = (k : ℕ) → suc k < length s → get_or s (suc k) 0 ≡ get_or s 0 0 → get_or s k 0 ≡ get_or s 0 0

pub absent_true : (s : List ℕ) (v : ℕ) → is_absent s v ≡ true → IsAbsent s v
absent_true s v e k l =
    eqb-false (get_or s (suc k) 0) v (not-true (eqb (get_or s (suc k) 0) v) (every_at (λ i. not (eqb (get_or s (suc i) 0) v)) (length s - 1) k e (omega arith)))

pub absent_from : (s : List ℕ) (v : ℕ) → IsAbsent s v → is_absent s v ≡ true
absent_from s v h = every_from (λ i. not (eqb (get_or s (suc i) 0) v)) (length s - 1)
    (λ k l. not_from_false (eqb (get_or s (suc k) 0) v) (ne_eqb (get_or s (suc k) 0) v (h k (omega arith))))

pub front_true : (s : List ℕ) → first_value_is_prefix s ≡ true → IsFront s
front_true s e k l q =
    elim (or_cases (eqb (get_or s k 0) (get_or s 0 0)) (not (eqb (get_or s (suc k) 0) (get_or s 0 0)))
    (every_at (λ i. eqb (get_or s i 0) (get_or s 0 0) || not (eqb (get_or s (suc i) 0) (get_or s 0 0))) (length s - 1) k e (omega arith))) [
      | inl a ↦ eqb-true (get_or s k 0) (get_or s 0 0) a
      | inr b ↦ absurd (eqb-false (get_or s (suc k) 0) (get_or s 0 0) (not-true (eqb (get_or s (suc k) 0) (get_or s 0 0)) b) q)
    ]

pub front_from : (s : List ℕ) → IsFront s → first_value_is_prefix s ≡ true
front_from s h = every_from (λ i. eqb (get_or s i 0) (get_or s 0 0) || not (eqb (get_or s (suc i) 0) (get_or s 0 0))) (length s - 1)
    (λ k l. elim (cases_eq (get_or s (suc k) 0) (get_or s 0 0)) [
      | inl q ↦ or_left (eqb (get_or s k 0) (get_or s 0 0)) (not (eqb (get_or s (suc k) 0) (get_or s 0 0))) (eq-eqb (get_or s k 0) (get_or s 0 0) (h k (omega arith) q))
      | inr ne ↦ or_right (eqb (get_or s k 0) (get_or s 0 0)) (not (eqb (get_or s (suc k) 0) (get_or s 0 0)))
          (not_from_false (eqb (get_or s (suc k) 0) (get_or s 0 0)) (ne_eqb (get_or s (suc k) 0) (get_or s 0 0) ne))
    ])

-- where S0 is not only in a prefix, it occurs past machine 0
pub not_front : (s : List ℕ) → first_value_is_prefix s ≡ false → (k : ℕ) × (suc k < length s) × (get_or s (suc k) 0 ≡ get_or s 0 0)
not_front s e =
    let w = every_fails (λ i. eqb (get_or s i 0) (get_or s 0 0) || not (eqb (get_or s (suc i) 0) (get_or s 0 0))) (length s - 1) e in
    let lt : w.0 < length s - 1 = w.1 in
    let q = or_parts (eqb (get_or s w.0 0) (get_or s 0 0)) (not (eqb (get_or s (suc w.0) 0) (get_or s 0 0))) w.2 in
    (w.0, omega arith, eqb-true (get_or s (suc w.0) 0) (get_or s 0 0) (not-false (eqb (get_or s (suc w.0) 0) (get_or s 0 0)) q.1))

pub stands : (x y : ℕ) → not (not (eqb x y)) ≡ true → x ≡ y
stands x y e = eqb-true x y (not-false (eqb x y) (not-true (not (eqb x y)) e))

-- fewer machines than values: some value S0 + j with 1 ≤ j < n is free

pub bit_not_and : (a b : Bool) → bit (not (a && b)) ≤ bit (not a) + bit (not b)
bit_not_and true true = omega arith
bit_not_and true false = omega arith
bit_not_and false true = omega arith
bit_not_and false false = omega arith

-- of the n values from v on, at most m occur among m machines
pub hits_le : (K v : ℕ) (s : List ℕ) (n m : ℕ) → v < K → n ≤ K →
    count_below (λ j. not (every_below (λ i. not (eqb (get_or s (suc i) 0) ((v + j) % K))) m)) n ≤ m
hits_le K v s n zero lv ln = let z : sum_below (λ _. 0) n ≡ 0 = sum_zero (λ _. 0) n (λ _ _. refl) in omega arith
hits_le K v s n (suc m) lv ln =
    let here : ℕ → Bool = λ j. not (eqb (get_or s (suc m) 0) ((v + j) % K)) in
    let before : ℕ → Bool = λ j. every_below (λ i. not (eqb (get_or s (suc i) 0) ((v + j) % K))) m in
    let split : count_below (λ j. not (here j && before j)) n ≤ sum_below (λ j. bit (not (here j)) + bit (not (before j))) n =
    sum_le (λ j. bit (not (here j && before j))) (λ j. bit (not (here j)) + bit (not (before j))) n (λ j _. bit_not_and (here j) (before j)) in
    let add : sum_below (λ j. bit (not (here j)) + bit (not (before j))) n ≡ count_below (λ j. not (here j)) n + count_below (λ j. not (before j)) n =
    sum_add (λ j. bit (not (here j))) (λ j. bit (not (before j))) n in
    let one : count_below (λ j. not (here j)) n ≤ 1 = count_one (λ j. not (here j)) n
    (λ i j li lj ei ej. wrap_injective K v i j lv (omega arith) (omega arith)
    (sym (stands (get_or s (suc m) 0) ((v + i) % K) ei) ∙ stands (get_or s (suc m) 0) ((v + j) % K) ej)) in
    let ih : count_below (λ j. not (before j)) n ≤ m = hits_le K v s n m lv ln in
    omega arith

-- where S0 occurs past machine 0, some S0 + j with 1 ≤ j < n does not
pub some_absent : (K v : ℕ) (s : List ℕ) → v < K → length s ≤ K → 1 ≤ length s → is_absent s v ≡ false →
    (j : ℕ) × (1 ≤ j) × (j < length s) × (is_absent s ((v + j) % K) ≡ true)
some_absent K v s lv ln one there =
    let hits : count_below (λ j. not (is_absent s ((v + j) % K))) (length s) ≤ length s - 1 = hits_le K v s (length s) (length s - 1) lv ln in
    let w = count_fails (λ j. not (is_absent s ((v + j) % K))) (length s) (omega arith) in
    let free : is_absent s ((v + w.0) % K) ≡ true = not-false (is_absent s ((v + w.0) % K)) w.2 in
    elim (cases_lt w.0 1) [
      | inl z ↦
          let e : (v + w.0) % K ≡ v = mod-eq_of_lt {n = v + w.0} {m = K} (omega arith) ∙ (omega arith) in
          absurd (both_ways (is_absent s v) there (sym (ap (is_absent s) e) ∙ free))
      | inr g ↦ (w.0, g, w.1, free)
    ]

-- a copy keeps a prefix, and brings no value past machine 0 but S0

pub front_copy : (r : Ring) (i : ℕ) → suc i < length r.values → IsFront r.values → IsFront (moved r (suc i)).values
front_copy r i l f k lk q =
    let t = moved r (suc i) in
    let n : length t.values ≡ length r.values = length_move r (suc i) in
    let zero' : get_or t.values 0 0 ≡ get_or r.values 0 0 = at_other r (suc i) 0 (omega arith) in
    let mover : get_or t.values (suc i) 0 ≡ get_or r.values i 0 = at_mover r (suc i) l in
    elim (cases_eq k i) [
      | inl e ↦
          let a : get_or t.values k 0 ≡ get_or r.values k 0 = at_other r (suc i) k (omega arith) in
          let b : get_or t.values (suc k) 0 ≡ get_or r.values i 0 = ap (λ x. get_or t.values (suc x) 0) e ∙ mover in
          let c : get_or r.values k 0 ≡ get_or r.values i 0 = ap (λ x. get_or r.values x 0) e in
          cc
      | inr ne ↦
          let b : get_or t.values (suc k) 0 ≡ get_or r.values (suc k) 0 = at_other r (suc i) (suc k) (omega arith) in
          let left : get_or r.values k 0 ≡ get_or r.values 0 0 = f k (omega arith) (cc) in
          elim (cases_eq k (suc i)) [
            | inl e ↦
                let a : get_or t.values k 0 ≡ get_or r.values i 0 = ap (λ x. get_or t.values x 0) e ∙ mover in
                let c : get_or r.values (suc i) 0 ≡ get_or r.values 0 0 = sym (ap (λ x. get_or r.values x 0) e) ∙ left in
                let d : get_or r.values i 0 ≡ get_or r.values 0 0 = f i l c in
                cc
            | inr ne' ↦
                let a : get_or t.values k 0 ≡ get_or r.values k 0 = at_other r (suc i) k ne' in
                cc
          ]
    ]

pub absent_all : (s : List ℕ) (v : ℕ) → get_or s 0 0 ≢ v → IsAbsent s v → (k : ℕ) → k < length s → get_or s k 0 ≢ v
absent_all s v ne h zero l q = ne q
absent_all s v ne h (suc k) l q = h k l q

pub absent_copy : (r : Ring) (i v : ℕ) → suc i < length r.values → get_or r.values 0 0 ≢ v → IsAbsent r.values v → IsAbsent (moved r (suc i)).values v
absent_copy r i v l ne h k lk q =
    let t = moved r (suc i) in
    let n : length t.values ≡ length r.values = length_move r (suc i) in
    elim (cases_eq k i) [
      | inl e ↦
          let mover : get_or t.values (suc i) 0 ≡ get_or r.values i 0 = at_mover r (suc i) l in
          let b : get_or r.values i 0 ≡ v = sym mover ∙ (sym (ap (λ x. get_or t.values (suc x) 0) e) ∙ q) in
          absent_all r.values v ne h i (omega arith) b
      | inr nk ↦
          let b : get_or t.values (suc k) 0 ≡ get_or r.values (suc k) 0 = at_other r (suc i) (suc k) (omega arith) in
          h k (omega arith) (sym b ∙ q)
    ]

-- a copy does not raise the lead
pub lead_copy : (r : Ring) (i : ℕ) → suc i < length r.values → lead (moved r (suc i)) ≤ lead r
lead_copy r i l =
    let t = moved r (suc i) in
    let from_s : ℕ = least (λ j. is_absent r.values ((get_or r.values 0 0 + j) % r.k)) 1 r.k in
    let from_t : ℕ = least (λ j. is_absent t.values ((get_or t.values 0 0 + j) % r.k)) 1 r.k in
    let n : length t.values ≡ length r.values = length_move r (suc i) in
    let zero' : get_or t.values 0 0 ≡ get_or r.values 0 0 = at_other r (suc i) 0 (omega arith) in
    elim (cases_Bool (first_value_is_prefix r.values)) [
      | inl f ↦
          let a : lead t ≡ 0 = cond-true (first_value_is_prefix t.values) 0 from_t (front_from t.values (front_copy r i l (front_true r.values f))) in
          omega arith
      | inr f ↦
          let a : lead r ≡ from_s = cond-false (first_value_is_prefix r.values) 0 from_s f in
          let w = not_front r.values f in
          let more : from_t ≤ from_s = least_more (λ j. is_absent r.values ((get_or r.values 0 0 + j) % r.k)) (λ j. is_absent t.values ((get_or t.values 0 0 + j) % r.k)) 1 r.k
          (λ j e.
          let h : IsAbsent r.values ((get_or r.values 0 0 + j) % r.k) = absent_true r.values ((get_or r.values 0 0 + j) % r.k) e in
          let ne : get_or r.values 0 0 ≢ (get_or r.values 0 0 + j) % r.k = λ q. h w.0 w.1 (w.2 ∙ q) in
          let there : is_absent t.values ((get_or r.values 0 0 + j) % r.k) ≡ true = absent_from t.values ((get_or r.values 0 0 + j) % r.k) (absent_copy r i ((get_or r.values 0 0 + j) % r.k) l ne h) in
          ap (λ x. is_absent t.values ((x + j) % r.k)) zero' ∙ there) in
          let b : lead t ≤ from_t = cond_both (first_value_is_prefix t.values) 0 from_t (λ x. x ≤ from_t) (λ _. omega arith) (λ _. omega arith) in
          omega arith
    ]

-- machine 0

-- where S0 is only in a prefix and also at the last machine, it is everywhere
pub front_all : (s : List ℕ) → IsFront s → get_or s (length s - 1) 0 ≡ get_or s 0 0 → (d k : ℕ) → suc (k + d) ≡ length s → get_or s k 0 ≡ get_or s 0 0
front_all s f e zero k q = let at : k ≡ length s - 1 = omega arith in ap (λ x. get_or s x 0) at ∙ e
front_all s f e (suc d) k q = f k (omega arith) (front_all s f e d (suc k) (omega arith))

pub none : (s : List ℕ) → ((k : ℕ) → k < length s → get_or s k 0 ≡ get_or s 0 0) → (k : ℕ) → k < length s → k ≢ 0 → bit (is_privileged s k) ≡ 0
none s h zero l ne = absurd (ne refl)
none s h (suc k) l ne = bit_at (is_privileged s (suc k)) false
    (not_from_true (eqb (get_or s k 0) (get_or s (suc k) 0)) (eq-eqb (get_or s k 0) (get_or s (suc k) 0) (h k (omega arith) ∙ sym (h (suc k) l))))

pub all_settled : (s : List ℕ) → 1 ≤ length s → is_privileged s 0 ≡ true → ((k : ℕ) → k < length s → get_or s k 0 ≡ get_or s 0 0) → is_settled s ≡ true
all_settled s one e h =
    let c : privileged_count s ≡ bit (is_privileged s 0) = sum_only (λ k. bit (is_privileged s k)) 0 (length s) one (none s h) in
    let b : bit (is_privileged s 0) ≡ 1 = bit_at (is_privileged s 0) true e in
    eq-eqb (privileged_count s) 1 (c ∙ b)

-- so a step of machine 0 in a ring that is not settled finds no such prefix
pub step_not_front : (s : List ℕ) → 1 ≤ length s → is_privileged s 0 ≡ true → is_settled s ≡ false → first_value_is_prefix s ≡ false
step_not_front s one e u = false_from_ne_true (first_value_is_prefix s)
    (λ f. both_ways (is_settled s) u (all_settled s one e
    (λ k l. front_all s (front_true s f) (last_is_first s e) (length s - suc k) k (omega arith))))

pub absent_step : (r : Ring) (x : ℕ) → is_absent r.values x ≡ true → is_absent (moved r 0).values x ≡ true
absent_step r x e =
    let n : length (moved r 0).values ≡ length r.values = length_move r 0 in
    absent_from (moved r 0).values x (λ k l q. absent_true r.values x e k (omega arith) (sym (at_other r 0 (suc k) (omega arith)) ∙ q))

-- (v + 1) + (j - 1) is v + j, round K
pub step_round : (K v j : ℕ) → v < K → 1 ≤ j → ((v + 1) % K + (j - 1)) % K ≡ (v + j) % K
step_round K v j l one = elim (wrap K v 1 l (omega arith)) [
  | inl a ↦ ap (λ x. x % K) (let q : (v + 1) % K + (j - 1) ≡ v + j = omega arith in q)
  | inr a ↦
      let x : (v + 1) % K + (j - 1) ≡ j - 1 = omega arith in
      let y : v + j ≡ K + (j - 1) = omega arith in
      ap (λ z. z % K) x ∙ sym (ap (λ z. z % K) y ∙ add-mod_left K (j - 1))
]

-- and lowers the lead
pub lead_step : (r : Ring) → IsRing r → is_privileged r.values 0 ≡ true → is_settled r.values ≡ false → lead (moved r 0) + 1 ≤ lead r
lead_step r g e u =
    let two = g.two in
    let enough = g.enough in
    let small : get_or r.values 0 0 < r.k = g.below 0 (omega arith) in
    let t = moved r 0 in
    let n : length t.values ≡ length r.values = length_move r 0 in
    let v : ℕ = get_or r.values 0 0 in
    let found : ℕ = least (λ j. is_absent r.values ((v + j) % r.k)) 1 r.k in
    let f : first_value_is_prefix r.values ≡ false = step_not_front r.values (omega arith) e u in
    let a : lead r ≡ found = cond-false (first_value_is_prefix r.values) 0 found f in
    let w = not_front r.values f in
    let there : is_absent r.values v ≡ false = false_from_ne_true (is_absent r.values v) (λ q. absent_true r.values v q w.0 w.1 w.2) in
    let free = some_absent r.k v r.values small enough (omega arith) there in
    let low : 1 ≤ found = least_from (λ j. is_absent r.values ((v + j) % r.k)) 1 r.k in
    let high : found ≤ free.0 = least_le (λ j. is_absent r.values ((v + j) % r.k)) 1 r.k free.0 free.1 free.3 in
    let below : free.0 < length r.values = free.2 in
    let gone : is_absent r.values ((v + found) % r.k) ≡ true = least_passes (λ j. is_absent r.values ((v + j) % r.k)) 1 r.k (omega arith) in
    let head : get_or t.values 0 0 ≡ (v + 1) % r.k = at_mover r 0 (omega arith) in
    let tail : (x : ℕ) → is_absent r.values x ≡ true → is_absent t.values x ≡ true = λ x q. absent_step r x q in
    elim (cases_lt found 2) [
      | inl one ↦
          let at : found ≡ 1 = omega arith in
          let no_other : is_absent t.values (get_or t.values 0 0) ≡ true =
          ap (is_absent t.values) head ∙ tail ((v + 1) % r.k) (sym (ap (λ j. is_absent r.values ((v + j) % r.k)) at) ∙ gone) in
          let front : first_value_is_prefix t.values ≡ true = front_from t.values (λ k lk q. absurd (absent_true t.values (get_or t.values 0 0) no_other k lk q)) in
          let b : lead t ≡ 0 = cond-true (first_value_is_prefix t.values) 0 (least (λ j. is_absent t.values ((get_or t.values 0 0 + j) % r.k)) 1 r.k) front in
          omega arith
      | inr more ↦
          let same : (get_or t.values 0 0 + (found - 1)) % r.k ≡ (v + found) % r.k = ap (λ x. (x + (found - 1)) % r.k) head ∙ step_round r.k v found small low in
          let b : least (λ j. is_absent t.values ((get_or t.values 0 0 + j) % r.k)) 1 r.k ≤ found - 1 =
          least_le (λ j. is_absent t.values ((get_or t.values 0 0 + j) % r.k)) 1 r.k (found - 1) (omega arith) (ap (is_absent t.values) same ∙ tail ((v + found) % r.k) gone) in
          let c : lead t ≤ found - 1 = cond_both (first_value_is_prefix t.values) 0 (least (λ j. is_absent t.values ((get_or t.values 0 0 + j) % r.k)) 1 r.k) (λ x. x ≤ found - 1) (λ _. omega arith) (λ _. b) in
          omega arith
    ]
