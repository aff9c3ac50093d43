-- Running counts of a ring's values: how the write of one value changes them.
use Rattle.std.proofs.Common.{◌≡◌, ℕ, zero, suc, ◌+◌, ◌-◌, ◌*◌, ◌%◌, ◌<◌, ◌≤◌, ◌≢◌, Bool, true, false, not, cond, List, length, get_or, set, refl, sym, ◌∙◌, ap, inl, inr, arith, eqb, get_or-set_same, get_or-set_other, [], ◌∷◌}
use Rattle.std.specs.Prelude.{replicate}
use Rattle.std.proofs.Math.ListN.{get_or-eq_default}
use Rattle.std.proofs.lemmas.List.{length-set, set-get_or, set_past, length-replicate, get_or-replicate}
use Rattle.std.proofs.lemmas.Grind.{same_number_lists}
use Rattle.std.proofs.lemmas.Bool.{cases_eq, cases_lt, cases_Bool, eq-eqb, ne_eqb, cond-true, cond-false}
use Rattle.ring_model.specs.Numbers.{every_below, sum_below, bit, count_below}
use Rattle.ring_model.specs.Ring.{Ring, ring_with, written, moved_value, is_privileged, right_neighbour, weight_at, weight, privileged_count, first_privileged, is_absent}
use Rattle.ring_model.specs.declared.events.Op.{Op}
use Rattle.ring_model.specs.declared.events.Op.TheVariants.{Pass, Member, Corrupt}
use Rattle.ring_model.specs.History.{State, granted_state, next}
use Rattle.ring_model.specs.Replay.{machine_of}
use Rattle.ring_model.specs.Resources.{till}
use Rattle.ring_model.proofs.Settled.{first_is, only_one}
use Rattle.ring_model.proofs.Below.{sum_but_one, sum_but_two, sum_one_le, sum_two_le, bit_at, bit_le, count_le}
use Rattle.ring_model.proofs.Moves.{next_is, same_value}
use Rattle.ring_model.proofs.Weight.{pull_le, pull_same}
use Rattle.ring_check.specs.Gauges.{holders, bit_of, both_of}

pub right_is : (s : List ℕ) (i : ℕ) → i + 1 < length s → i + 1 ≡ right_neighbour s i
right_is s i l = elim (next_is s i (omega arith)) [ inl w ↦ sym w.1 | inr w ↦ absurd (omega arith) ]

pub right_zero : (s : List ℕ) (i : ℕ) → i < length s → length s ≤ i + 1 → 0 ≡ right_neighbour s i
right_zero s i l g = elim (next_is s i l) [ inl w ↦ absurd (omega arith) | inr w ↦ sym w.1 ]

pub right_within : (s : List ℕ) (i : ℕ) → i < length s → right_neighbour s i < length s
right_within s i l = elim (next_is s i l) [ inl w ↦ omega arith | inr w ↦ omega arith ]

pub both_one : (f : ℕ → ℕ) (i r : ℕ) → r ≡ i → both_of f i r ≡ f i
both_one f i r e = cond-true (eqb r i) (f i) (f i + f r) (eq-eqb r i e)

pub both_two : (f : ℕ → ℕ) (i r : ℕ) → r ≢ i → both_of f i r ≡ f i + f r
both_two f i r ne = cond-false (eqb r i) (f i) (f i + f r) (ne_eqb r i ne)

-- a sum is at least what the two add to it, and changes by it
pub both_le : (f : ℕ → ℕ) (i r n : ℕ) → i < n → r < n → both_of f i r ≤ sum_below f n
both_le f i r n li lr = elim (cases_eq r i) [
  | inl e ↦ let a = both_one f i r e in let b = sum_one_le f i n li in omega arith
  | inr ne ↦ let a = both_two f i r ne in let b = sum_two_le f i r n li lr (λ q. ne (sym q)) in omega arith
]

pub sum_both : (f g : ℕ → ℕ) (i r n : ℕ) → i < n → r < n → ((k : ℕ) → k < n → k ≢ i → k ≢ r → f k ≡ g k) → sum_below f n + both_of g i r ≡ sum_below g n + both_of f i r
sum_both f g i r n li lr h = elim (cases_eq r i) [
  | inl e ↦
      let a = both_one f i r e in
      let b = both_one g i r e in
      let c = sum_but_one f g i n li (λ k lk ni. h k lk ni (λ q. ni (q ∙ e))) in
      omega arith
  | inr ne ↦
      let a = both_two f i r ne in
      let b = both_two g i r ne in
      let c = sum_but_two f g i r n li lr (λ q. ne (sym q)) h in
      omega arith
]

pub sum_bound : (f : ℕ → ℕ) (c n : ℕ) → ((k : ℕ) → f k ≤ c) → sum_below f n ≤ c * n
sum_bound f c zero h = omega arith
sum_bound f c (suc n) h =
    let a = sum_bound f c n h in
    let b = h n in
    let m : c * suc n ≡ c * n + c = omega arith in
    omega arith

-- a write changes the privilege of its machine and of the one to its right only
pub others_written : (s : List ℕ) (i v k : ℕ) → i < length s → k < length s → k ≢ i → k ≢ right_neighbour s i → is_privileged (set s i v) k ≡ is_privileged s k
others_written s i v zero l lk ni nn =
    let n : length (set s i v) ≡ length s = length-set s i v in
    let ne : length s - 1 ≢ i = elim (next_is s i l) [ inl w ↦ omega arith | inr w ↦ omega arith ] in
    let a : get_or (set s i v) (length s - 1) 0 ≡ get_or s (length s - 1) 0 = get_or-set_other s i (length s - 1) v 0 ne in
    let a' : get_or (set s i v) (length (set s i v) - 1) 0 ≡ get_or s (length s - 1) 0 = ap (λ x. get_or (set s i v) (x - 1) 0) n ∙ a in
    let b : get_or (set s i v) 0 0 ≡ get_or s 0 0 = get_or-set_other s i 0 v 0 ni in
    same_value _ _ _ _ a' b
others_written s i v (suc k) l lk ni nn =
    let ne : k ≢ i = elim (next_is s i l) [ inl w ↦ omega arith | inr w ↦ omega arith ] in
    let a : get_or (set s i v) k 0 ≡ get_or s k 0 = get_or-set_other s i k v 0 ne in
    let b : get_or (set s i v) (suc k) 0 ≡ get_or s (suc k) 0 = get_or-set_other s i (suc k) v 0 ni in
    ap not (same_value _ _ _ _ a b)

pub count_written : (s : List ℕ) (i v : ℕ) → i < length s →
    privileged_count s + both_of (bit_of (set s i v)) i (right_neighbour s i) ≡ privileged_count (set s i v) + both_of (bit_of s) i (right_neighbour s i)
count_written s i v l =
    let n : length (set s i v) ≡ length s = length-set s i v in
    let c : privileged_count (set s i v) ≡ count_below (is_privileged (set s i v)) (length s) = ap (count_below (is_privileged (set s i v))) n in
    let sums = sum_both (bit_of s) (bit_of (set s i v)) i (right_neighbour s i) (length s) l (right_within s i l)
    (λ k lk ni nn. bit_at (is_privileged s k) (is_privileged (set s i v) k) (sym (others_written s i v k l lk ni nn))) in
    omega arith

pub weight_written : (s : List ℕ) (i v : ℕ) → i < length s →
    weight s + both_of (weight_at (set s i v)) i (right_neighbour s i) ≡ weight (set s i v) + both_of (weight_at s) i (right_neighbour s i)
weight_written s i v l =
    let n : length (set s i v) ≡ length s = length-set s i v in
    let c : weight (set s i v) ≡ sum_below (weight_at (set s i v)) (length s) = ap (sum_below (weight_at (set s i v))) n in
    let sums = sum_both (weight_at s) (weight_at (set s i v)) i (right_neighbour s i) (length s) l (right_within s i l)
    (λ k lk ni nn. pull_same s (set s i v) k n (others_written s i v k l lk ni nn)) in
    omega arith

pub weight_few : (s : List ℕ) (m : ℕ) → length s ≤ m → weight s ≤ m * length s
weight_few s m l = sum_bound (weight_at s) m (length s) (λ k. let h = pull_le s k in omega arith)

-- the machines that hold a value
holder_bit : List ℕ → ℕ → ℕ → ℕ
holder_bit s v i = bit (eqb (get_or s (suc i) 0) v)

pub holders_written : (s : List ℕ) (i new v : ℕ) → suc i < length s →
    holders s v + bit (eqb new v) ≡ holders (set s (suc i) new) v + bit (eqb (get_or s (suc i) 0) v)
holders_written s i new v l =
    let t = set s (suc i) new in
    let n : length t ≡ length s = length-set s (suc i) new in
    let c : holders t v ≡ count_below (λ k. eqb (get_or t (suc k) 0) v) (length s - 1) = ap (λ x. count_below (λ k. eqb (get_or t (suc k) 0) v) (x - 1)) n in
    let at : get_or t (suc i) 0 ≡ new = get_or-set_same s (suc i) new 0 l in
    let there : bit (eqb (get_or t (suc i) 0) v) ≡ bit (eqb new v) = ap (λ x. bit (eqb x v)) at in
    let sums = sum_but_one (λ k. bit (eqb (get_or s (suc k) 0) v)) (λ k. bit (eqb (get_or t (suc k) 0) v)) i (length s - 1) (omega arith)
    (λ k lk ni. ap (λ x. bit (eqb x v)) (sym (get_or-set_other s (suc i) (suc k) new 0 (omega arith)))) in
    omega arith

pub holders_zero : (s : List ℕ) (new v : ℕ) → holders (set s 0 new) v ≡ holders s v
holders_zero [] new v = refl
holders_zero (x ∷ s) new v = refl

pub holders_few : (s : List ℕ) (v : ℕ) → holders s v ≤ length s - 1
holders_few s v = count_le (λ i. eqb (get_or s (suc i) 0) v) (length s - 1)

pub holders_some : (s : List ℕ) (i v : ℕ) → suc i < length s → get_or s (suc i) 0 ≡ v → 1 ≤ holders s v
holders_some s i v l e =
    let one = sum_one_le (λ k. bit (eqb (get_or s (suc k) 0) v)) i (length s - 1) (omega arith) in
    let b : bit (eqb (get_or s (suc i) 0) v) ≡ 1 = bit_at (eqb (get_or s (suc i) 0) v) true (eq-eqb (get_or s (suc i) 0) v e) in
    omega arith

-- a value is absent just where none holds it
none_passes : (p : ℕ → Bool) (n : ℕ) → count_below p n ≡ 0 → every_below (λ i. not (p i)) n ≡ true
none_passes p zero e = refl
none_passes p (suc n) e =
    let off : p n ≡ false = elim (cases_Bool (p n)) [ inl t ↦ (let b : bit (p n) ≡ 1 = bit_at (p n) true t in absurd (omega arith)) | inr f ↦ f ] in
    let rest = none_passes p n (omega arith) in
    rw (off, rest) refl

some_passes : (p : ℕ → Bool) (n : ℕ) → 1 ≤ count_below p n → every_below (λ i. not (p i)) n ≡ false
some_passes p zero e = absurd (omega arith)
some_passes p (suc n) e = elim (cases_Bool (p n)) [
  | inl t ↦ rw t refl
  | inr f ↦
      let b : bit (p n) ≡ 0 = bit_at (p n) false f in
      let rest = some_passes p n (omega arith) in
      rw (f, rest) refl
]

pub absent_none : (s : List ℕ) (v : ℕ) → holders s v ≡ 0 → is_absent s v ≡ true
absent_none s v e = none_passes (λ i. eqb (get_or s (suc i) 0) v) (length s - 1) e

pub absent_some : (s : List ℕ) (v : ℕ) → 1 ≤ holders s v → is_absent s v ≡ false
absent_some s v e = some_passes (λ i. eqb (get_or s (suc i) 0) v) (length s - 1) e

-- the sums after a write

right_same : (s : List ℕ) (i v : ℕ) → right_neighbour (set s i v) i ≡ right_neighbour s i
right_same s i v = ap (λ n. (i + 1) % n) (length-set s i v)

both_same : (f : ℕ → ℕ) (s : List ℕ) (i v a : ℕ) → a ≡ both_of f i (right_neighbour (set s i v) i) → a ≡ both_of f i (right_neighbour s i)
both_same f s i v a e = e ∙ ap (both_of f i) (right_same s i v)

pub count_new : (s : List ℕ) (i v b a p : ℕ) → i < length s → b ≡ both_of (bit_of s) i (right_neighbour s i) →
    a ≡ both_of (bit_of (set s i v)) i (right_neighbour (set s i v) i) → p ≡ privileged_count s → (b ≤ p) × (p - b + a ≡ privileged_count (set s i v))
count_new s i v b a p l eb ea ep =
    let le = both_le (bit_of s) i (right_neighbour s i) (length s) l (right_within s i l) in
    let ea' = both_same (bit_of (set s i v)) s i v a ea in
    let c = count_written s i v l in
    (omega arith, omega arith)

pub weight_new : (s : List ℕ) (i v b a p : ℕ) → i < length s → b ≡ both_of (weight_at s) i (right_neighbour s i) →
    a ≡ both_of (weight_at (set s i v)) i (right_neighbour (set s i v) i) → p ≡ weight s → (b ≤ p) × (p - b + a ≡ weight (set s i v))
weight_new s i v b a p l eb ea ep =
    let le = both_le (weight_at s) i (right_neighbour s i) (length s) l (right_within s i l) in
    let ea' = both_same (weight_at (set s i v)) s i v a ea in
    let c = weight_written s i v l in
    (omega arith, omega arith)

pub count_few : (s : List ℕ) → privileged_count s ≤ length s
count_few s = count_le (is_privileged s) (length s)

-- the counts of holders after a write

lowered : (h : List ℕ) (old w : ℕ) → w < length h → get_or (set h old (get_or h old 0 - 1)) w 0 ≡ get_or h w 0 - bit (eqb old w)
lowered h old w l = elim (cases_eq w old) [
  | inl e ↦
      let b : bit (eqb old w) ≡ 1 = bit_at (eqb old w) true (eq-eqb old w (sym e)) in
      let at : get_or (set h old (get_or h old 0 - 1)) w 0 ≡ get_or h old 0 - 1 =
      ap (λ x. get_or (set h old (get_or h old 0 - 1)) x 0) e ∙ get_or-set_same h old (get_or h old 0 - 1) 0 (omega arith) in
      let same : get_or h w 0 ≡ get_or h old 0 = ap (λ x. get_or h x 0) e in
      omega arith
  | inr ne ↦
      let b : bit (eqb old w) ≡ 0 = bit_at (eqb old w) false (ne_eqb old w (λ q. ne (sym q))) in
      let at = get_or-set_other h old w (get_or h old 0 - 1) 0 ne in
      omega arith
]

pub raised : (h : List ℕ) (new w : ℕ) → w < length h → get_or (set h new (get_or h new 0 + 1)) w 0 ≡ get_or h w 0 + bit (eqb new w)
raised h new w l = elim (cases_eq w new) [
  | inl e ↦
      let b : bit (eqb new w) ≡ 1 = bit_at (eqb new w) true (eq-eqb new w (sym e)) in
      let at : get_or (set h new (get_or h new 0 + 1)) w 0 ≡ get_or h new 0 + 1 =
      ap (λ x. get_or (set h new (get_or h new 0 + 1)) x 0) e ∙ get_or-set_same h new (get_or h new 0 + 1) 0 (omega arith) in
      let same : get_or h w 0 ≡ get_or h new 0 = ap (λ x. get_or h x 0) e in
      omega arith
  | inr ne ↦
      let b : bit (eqb new w) ≡ 0 = bit_at (eqb new w) false (ne_eqb new w (λ q. ne (sym q))) in
      let at = get_or-set_other h new w (get_or h new 0 + 1) 0 ne in
      omega arith
]

-- a count for each value below K of the machines 1 to i - 1
abbrev pub AreCounted : ℕ → List ℕ → ℕ → List ℕ → Type 0
AreCounted k s i h = (length h ≡ k) × ((v : ℕ) → v < k → get_or h v 0 ≡ count_below (λ j. eqb (get_or s (suc j) 0) v) (i - 1))

pub counted_few : (k : ℕ) (s : List ℕ) (i v : ℕ) (h : List ℕ) → AreCounted k s i h → get_or h v 0 ≤ i - 1
counted_few k s i v h a = elim (cases_lt v k) [
  | inl l ↦ let c = count_le (λ j. eqb (get_or s (suc j) 0) v) (i - 1) in let e = a.1 v l in omega arith
  | inr g ↦ let long = a.0 in let e = get_or-eq_default h 0 {n = v} (omega arith) in omega arith
]

pub counted_none : (k : ℕ) (s h : List ℕ) → h ≡ replicate k 0 → AreCounted k s 1 h
counted_none k s h e = (ap (λ (x : List ℕ). length x) e ∙ length-replicate k 0, λ v l. ap (λ (x : List ℕ). get_or x v 0) e ∙ get_or-replicate k v 0 0 l)

pub counted_more : (k : ℕ) (s : List ℕ) (i : ℕ) (h new : List ℕ) → 1 ≤ i → AreCounted k s i h → new ≡ set h (get_or s i 0) (get_or h (get_or s i 0) 0 + 1) → AreCounted k s (i + 1) new
counted_more k s zero h new one a e = absurd (omega arith)
counted_more k s (suc i) h new one a e = (
  ap (λ (x : List ℕ). length x) e ∙ length-set h (get_or s (suc i) 0) (get_or h (get_or s (suc i) 0) 0 + 1) ∙ a.0,
  λ v l.
      let long = a.0 in
      let at : get_or new v 0 ≡ get_or h v 0 + bit (eqb (get_or s (suc i) 0) v) = ap (λ (x : List ℕ). get_or x v 0) e ∙ raised h (get_or s (suc i) 0) v (omega arith) in
      let before : get_or h v 0 ≡ count_below (λ j. eqb (get_or s (suc j) 0) v) i =
      (let z : suc i - 1 ≡ i = omega arith in a.1 v l ∙ ap (λ x. count_below (λ j. eqb (get_or s (suc j) 0) v) x) z) in
      let more : count_below (λ j. eqb (get_or s (suc j) 0) v) (suc i + 1 - 1) ≡ count_below (λ j. eqb (get_or s (suc j) 0) v) i + bit (eqb (get_or s (suc i) 0) v) =
      (let z : suc i + 1 - 1 ≡ suc i = omega arith in ap (λ x. count_below (λ j. eqb (get_or s (suc j) 0) v) x) z) in
      omega arith,
)

-- after the write of a value into a machine but machine 0
abbrev pub AreHeld : ℕ → List ℕ → List ℕ → Type 0
AreHeld k s h = (v : ℕ) → v < k → get_or h v 0 ≡ holders s v

pub old_held : (k : ℕ) (s h : List ℕ) (m old : ℕ) → 0 < m → m < length s → length h ≡ k → AreHeld k s h → old ≡ get_or s m 0 → old < length h → 1 ≤ get_or h old 0
old_held k s h zero old some l long held e lt = absurd (omega arith)
old_held k s h (suc i) old some l long held e lt =
    let a = held old (omega arith) in
    let b = holders_some s i old l (sym e) in
    omega arith

pub lowered_few : (k : ℕ) (s h : List ℕ) (old v : ℕ) → length h ≡ k → AreHeld k s h → get_or (set h old (get_or h old 0 - 1)) v 0 ≤ length s - 1
lowered_few k s h old v long held = elim (cases_lt v k) [
  | inl l ↦
      let a = lowered h old v (omega arith) in
      let b = held v l in
      let c = holders_few s v in
      omega arith
  | inr g ↦
      let n = length-set h old (get_or h old 0 - 1) in
      let e = get_or-eq_default (set h old (get_or h old 0 - 1)) 0 {n = v} (omega arith) in
      omega arith
]

pub held_new : (k : ℕ) (s h low high : List ℕ) (m old new : ℕ) → 0 < m → m < length s → length h ≡ k → AreHeld k s h → old ≡ get_or s m 0 →
    low ≡ set h old (get_or h old 0 - 1) → high ≡ set low new (get_or low new 0 + 1) → AreHeld k (set s m new) high
held_new k s h low high zero old new some l long held e el eh v lv = absurd (omega arith)
held_new k s h low high (suc i) old new some l long held e el eh v lv =
    let n : length low ≡ length h = ap (λ (x : List ℕ). length x) el ∙ length-set h old (get_or h old 0 - 1) in
    let a : get_or low v 0 ≡ get_or h v 0 - bit (eqb old v) = ap (λ (x : List ℕ). get_or x v 0) el ∙ lowered h old v (omega arith) in
    let b : get_or high v 0 ≡ get_or low v 0 + bit (eqb new v) = ap (λ (x : List ℕ). get_or x v 0) eh ∙ raised low new v (omega arith) in
    let c = held v lv in
    let d : holders s v + bit (eqb new v) ≡ holders (set s (suc i) new) v + bit (eqb old v) = holders_written s i new v l ∙ ap (λ x. holders (set s (suc i) new) v + bit (eqb x v)) (sym e) in
    let one : bit (eqb old v) ≤ holders s v = elim (cases_eq old v) [
      | inl q ↦ (let z = holders_some s i v l (sym e ∙ q) in let w = bit_le (eqb old v) in omega arith)
      | inr ne ↦ (let w : bit (eqb old v) ≡ 0 = bit_at (eqb old v) false (ne_eqb old v ne) in omega arith)
    ] in
    omega arith

pub held_zero : (k : ℕ) (s h : List ℕ) (m new : ℕ) → m ≤ 0 → AreHeld k s h → AreHeld k (set s m new) h
held_zero k s h zero new none held v lv = held v lv ∙ sym (holders_zero s new v)
held_zero k s h (suc i) new none held v lv = absurd (omega arith)

-- the test of a count
pub absent_told : (k : ℕ) (s h : List ℕ) (v x : ℕ) → AreHeld k s h → v < k → x ≡ get_or h v 0 → eqb x 0 ≡ is_absent s v
absent_told k s h v x held l e =
    let a = held v l in
    elim (cases_eq x 0) [
      | inl z ↦ eq-eqb x 0 z ∙ sym (absent_none s v (omega arith))
      | inr n ↦ ne_eqb x 0 n ∙ sym (absent_some s v (omega arith))
    ]

pub long_new : (k old new : ℕ) (h low high : List ℕ) → length h ≡ k → low ≡ set h old (get_or h old 0 - 1) → high ≡ set low new (get_or low new 0 + 1) → length high ≡ k
long_new k old new h low high long el eh =
    ap (λ (x : List ℕ). length x) eh ∙ length-set low new (get_or low new 0 + 1) ∙ ap (λ (x : List ℕ). length x) el ∙ length-set h old (get_or h old 0 - 1) ∙ long

pub times_le : (a b c : ℕ) → a ≤ b → a * c ≤ b * c
times_le a b zero l = omega arith
times_le a b (suc c) l = let h = times_le a b c l in let x : a * suc c ≡ a * c + a = omega arith in let y : b * suc c ≡ b * c + b = omega arith in omega arith

-- a write of the value that is there
pub written_same : (r : Ring) (i v : ℕ) → get_or r.values i 0 ≡ v → r ≡ written r i v
written_same r i v e = ap (ring_with r.k) (sym (ap (set r.values i) (sym e) ∙ set-get_or r.values i 0))

-- the first n values of a ring are these
abbrev pub Agrees : ℕ → ℕ → Ring → List ℕ → Type 0
Agrees k i r s = (r.k ≡ k) × (length r.values ≡ length s) × ((j : ℕ) → j < i → get_or r.values j 0 ≡ get_or s j 0)

pub agrees_more : (k i : ℕ) (r t : Ring) (s : List ℕ) → i < length s → Agrees k i r s → t ≡ written r i (get_or s i 0) → Agrees k (i + 1) t s
agrees_more k i r t s l a e =
    let long = a.1 in
    let values : t.values ≡ set r.values i (get_or s i 0) = ap (λ (x : Ring). x.values) e in (
      ap (λ (x : Ring). x.k) e ∙ a.0,
      ap (λ (x : List ℕ). length x) values ∙ length-set r.values i (get_or s i 0) ∙ a.1,
      λ j lj. elim (cases_eq j i) [
        | inl q ↦
            ap (λ (x : List ℕ). get_or x j 0) values ∙ ap (λ x. get_or (set r.values i (get_or s i 0)) x 0) q
            ∙ get_or-set_same r.values i (get_or s i 0) 0 (omega arith) ∙ ap (λ x. get_or s x 0) (sym q)
        | inr ne ↦ ap (λ (x : List ℕ). get_or x j 0) values ∙ get_or-set_other r.values i j (get_or s i 0) 0 ne ∙ a.2 j (omega arith)
      ],
    )

pub agrees_all : (k i : ℕ) (r : Ring) (s : List ℕ) → length s ≤ i → Agrees k i r s → r ≡ ring_with k s
agrees_all k i r s l a =
    let long = a.1 in
    let same : r.values ≡ s = same_number_lists r.values s a.1 (λ j lj. a.2 j (omega arith)) in
    let ek = a.0 in
    rw (ek, same) refl

-- a call changes only the value of its machine, to the one that it has afterwards
written_back : (r : Ring) (i : ℕ) → written r i (get_or r.values i 0) ≡ r
written_back r i = ap (ring_with r.k) (set-get_or r.values i 0)

set_again : (s : List ℕ) (i v : ℕ) → set s i (get_or (set s i v) i 0) ≡ set s i v
set_again s i v = elim (cases_lt i (length s)) [
  | inl l ↦ ap (set s i) (get_or-set_same s i v 0 l)
  | inr g ↦ set_past s i (get_or (set s i v) i 0) g ∙ sym (set_past s i v g)
]

written_again : (r : Ring) (i v : ℕ) → written r i (get_or (written r i v).values i 0) ≡ written r i v
written_again r i v = ap (ring_with r.k) (set_again r.values i v)

passed_again : (a : State ℕ) (i order : ℕ) (p : Bool) → written a.ring i (get_or (cond p (granted_state till a i order) a).ring.values i 0) ≡ (cond p (granted_state till a i order) a).ring
passed_again a i order true = written_again a.ring i (moved_value a.ring i)
passed_again a i order false = written_back a.ring i

pub called_again : (a : State ℕ) (o : Op) → written a.ring (machine_of o) (get_or (next till a o).ring.values (machine_of o) 0) ≡ (next till a o).ring
called_again a (Pass i order) = passed_again a i order (is_privileged a.ring.values i)
called_again a (Member i order left) = passed_again a i order (is_privileged a.ring.values i)
called_again a (Corrupt i v) = written_again a.ring i v

-- a call of none of the machines changes no value
pub called_past : (a : State ℕ) (o : Op) → length (next till a o).ring.values ≤ machine_of o → a.ring ≡ (next till a o).ring
called_past a o g =
    let v = get_or (next till a o).ring.values (machine_of o) 0 in
    let again = called_again a o in
    let n : length (set a.ring.values (machine_of o) v) ≡ length (next till a o).ring.values = ap (λ (r : Ring). length r.values) again in
    let m : length (set a.ring.values (machine_of o) v) ≡ length a.ring.values = length-set a.ring.values (machine_of o) v in
    ap (ring_with a.ring.k) (sym (set_past a.ring.values (machine_of o) v (omega arith))) ∙ again

-- where one machine is privileged, it is the first
pub one_first : (s : List ℕ) (i : ℕ) → privileged_count s ≡ 1 → i < length s → is_privileged s i ≡ true → i ≡ first_privileged s
one_first s i one l e =
    let f = first_is s (omega arith) in
    only_one s i (first_privileged s) (eq-eqb (privileged_count s) 1 one) l f.0 e f.1
