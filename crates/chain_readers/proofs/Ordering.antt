-- Surveys that are put one segment after the other, seat by seat, are in order.
use Rattle.std.proofs.Common.{◌≡◌, ℕ, zero, suc, ◌+◌, ◌<◌, ◌≤◌, ◌⊎◌, Bool, true, false, cond, eqb, List, [], ◌∷◌, ◌++◌, map, refl, sym, ap, subst, ◌∙◌, arith, inl, inr}
use Rattle.std.specs.Prelude.{not}
use Rattle.std.specs.List.{filter, AllByRecursion}
use Rattle.std.proofs.lemmas.Bool.{eqb-true, eqb-false, ne_eqb, eq-eqb}
use Rattle.std.proofs.lemmas.List.Elements.{filter-append}
use Rattle.saved_history.specs.declared.saved.SavedSurvey.{SavedSurvey}
use Rattle.ring_check.specs.Meaning.{AreOnward, AreInOrder}
use Rattle.journal.specs.ContentAfter.{is_of, by_seats}

-- from a position on none is earlier than the one before
abbrev pub Onward : ℕ → List SavedSurvey → Type 0
Onward p [] = Unit {0}
Onward p (s ∷ ss) = (p ≤ s.position) × Onward s.position ss

-- those of each seat are so
abbrev pub Ordered : List SavedSurvey → Type 0
Ordered ss = (seat : ℕ) → Onward 0 (filter (is_of seat) ss)

abbrev pub AtMost : ℕ → List SavedSurvey → Type 0
AtMost m ss = AllByRecursion (λ (s : SavedSurvey). s.position ≤ m) ss

from_less : (p q : ℕ) (ss : List SavedSurvey) → p ≤ q → Onward q ss → Onward p ss
from_less p q [] le o = tt
from_less p q (s ∷ ss) le o = let first = o.0 in (omega (arith, le, first), o.1)

pub onward_both : (p m : ℕ) (xs ys : List SavedSurvey) → p ≤ m → AtMost m xs → Onward p xs → Onward m ys → Onward p (xs ++ ys)
onward_both p m [] ys le a o h = from_less p m ys le h
onward_both p m (x ∷ xs) ys le a o h = (o.0, onward_both x.position m xs ys a.0 a.1 o.1 h)

-- ---- one segment's surveys, which are in order

none_later : (seat t p : ℕ) (ss : List SavedSurvey) → seat < t → AreOnward t p ss → filter (is_of seat) ss ≡ []
none_later seat t p [] lt o = refl
none_later seat t p (s ∷ ss) lt o =
    let le : t ≤ s.seat = elim o.0 [ inl m ↦ omega (arith, m) | inr m ↦ let e = m.0 in omega (arith, e) ] in
    rw (ne_eqb s.seat seat (λ e. absurd (omega (arith, e, lt, le)))) (none_later seat s.seat s.position ss (omega (arith, lt, le)) o.1)

same_seat : (seat p : ℕ) (ss : List SavedSurvey) → AreOnward seat p ss → Onward p (filter (is_of seat) ss)
same_seat seat p [] o = tt
same_seat seat p (s ∷ ss) o = elim o.0 [
  | inl m ↦
      let none : filter (is_of seat) ss ≡ [] = none_later seat s.seat s.position ss m o.1 in
      rw (ne_eqb s.seat seat (λ e. absurd (omega (arith, e, m)))) (subst (λ (u : List SavedSurvey). Onward p u) (sym none) tt)
  | inr m ↦
      let e : s.seat ≡ seat = sym m.0 in
      rw (eq-eqb s.seat seat e) (m.1, subst (λ (t : ℕ). Onward s.position (filter (is_of t) ss)) e (same_seat s.seat s.position ss o.1))
]

any_seat : (seat t p : ℕ) (ss : List SavedSurvey) → AreOnward t p ss → Onward 0 (filter (is_of seat) ss)
any_seat seat t p [] o = tt
any_seat seat t p (s ∷ ss) o = by (eqb s.seat seat) refl (any_seat seat s.seat s.position ss o.1)
  where
    by : (b : Bool) → eqb s.seat seat ≡ b → Onward 0 (filter (is_of seat) ss) → Onward 0 (filter (is_of seat) (s ∷ ss))
    by true e h = rw e (omega arith, subst (λ (t : ℕ). Onward s.position (filter (is_of t) ss)) (eqb-true s.seat seat e) (same_seat s.seat s.position ss o.1))
    by false e h = rw e h

pub ordered_of : (ss : List SavedSurvey) → AreInOrder ss → Ordered ss
ordered_of [] o = λ seat. tt
ordered_of (s ∷ ss) o = λ seat. any_seat seat s.seat 0 (s ∷ ss) (inr (refl, omega arith), o)

-- ---- seat by seat

abbrev pub Seats : ℕ → ℕ → List SavedSurvey → Type 0
Seats low high ss = AllByRecursion (λ (s : SavedSurvey). (low ≤ s.seat) × (s.seat < high)) ss

others : (seat high : ℕ) (ss : List SavedSurvey) → Seats seat high ss → Seats (seat + 1) high (filter (λ s. not (is_of seat s)) ss)
others seat high [] a = tt
others seat high (s ∷ ss) a = by (eqb s.seat seat) refl (others seat high ss a.1)
  where
    by : (b : Bool) → eqb s.seat seat ≡ b → Seats (seat + 1) high (filter (λ s. not (is_of seat s)) ss) → Seats (seat + 1) high (filter (λ s. not (is_of seat s)) (s ∷ ss))
    by true e h = rw e h
    by false e h =
        let apart = eqb-false s.seat seat e in
        let low = a.0.0 in
        rw e ((grind (arith, apart, low), a.0.1), h)

kept : (seat t : ℕ) (ss : List SavedSurvey) → seat < t → filter (is_of t) (filter (λ s. not (is_of seat s)) ss) ≡ filter (is_of t) ss
kept seat t [] lt = refl
kept seat t (s ∷ ss) lt = by (eqb s.seat seat) (eqb s.seat t) refl refl (kept seat t ss lt)
  where
    by : (a b : Bool) → eqb s.seat seat ≡ a → eqb s.seat t ≡ b → filter (is_of t) (filter (λ s. not (is_of seat s)) ss) ≡ filter (is_of t) ss → filter (is_of t) (filter (λ s. not (is_of seat s)) (s ∷ ss)) ≡ filter (is_of t) (s ∷ ss)
    by true true e f h = absurd (let x = eqb-true s.seat seat e in let y = eqb-true s.seat t f in omega (arith, x, y, lt))
    by true false e f h = rw (e, f) h
    by false true e f h = rw (e, f) (ap (λ (u : List SavedSurvey). s ∷ u) h)
    by false false e f h = rw (e, f) h

-- the surveys of later seats are ordered
abbrev From : ℕ → List SavedSurvey → Type 0
From seat ss = (t : ℕ) → seat ≤ t → Onward 0 (filter (is_of t) ss)

from_next : (seat : ℕ) (ss : List SavedSurvey) → From seat ss → From (seat + 1) (filter (λ s. not (is_of seat s)) ss)
from_next seat ss h t le = subst (λ (u : List SavedSurvey). Onward 0 u) (sym (kept seat t ss (omega (arith, le)))) (h t (omega (arith, le)))

-- those of one seat, and then others
one_then : (seat q t p : ℕ) (xs rest : List SavedSurvey) → AllByRecursion (λ (s : SavedSurvey). s.seat ≡ seat) xs → Onward q xs → (t < seat) ⊎ ((t ≡ seat) × (p ≤ q))
    → ((u r : ℕ) → u < seat + 1 → AreOnward u r rest) → AreOnward t p (xs ++ rest)
one_then seat q t p [] rest a o le more = more t p (elim le [ inl m ↦ omega (arith, m) | inr m ↦ let e = m.0 in omega (arith, e) ])
one_then seat q t p (x ∷ xs) rest a o le more =
    let is : x.seat ≡ seat = a.0 in
    let up = o.0 in (
      elim le [ inl m ↦ inl (omega (arith, is, m)) | inr m ↦ let e = m.0 in let f = m.1 in inr (omega (arith, is, e), omega (arith, up, f)) ],
      one_then seat x.position x.seat x.position xs rest a.1 o.1 (inr (is, omega arith)) more,
    )

all_of : (seat : ℕ) (ss : List SavedSurvey) → AllByRecursion (λ (s : SavedSurvey). s.seat ≡ seat) (filter (is_of seat) ss)
all_of seat [] = tt
all_of seat (s ∷ ss) = by (eqb s.seat seat) refl (all_of seat ss)
  where
    by : (b : Bool) → eqb s.seat seat ≡ b → AllByRecursion (λ (s : SavedSurvey). s.seat ≡ seat) (filter (is_of seat) ss) → AllByRecursion (λ (s : SavedSurvey). s.seat ≡ seat) (filter (is_of seat) (s ∷ ss))
    by true e h = rw e (eqb-true s.seat seat e, h)
    by false e h = rw e h

seated : (left seat t p : ℕ) (ss : List SavedSurvey) → Seats seat (seat + left) ss → From seat ss → (t < seat) ⊎ ((t ≡ seat) × (p ≡ 0)) → AreOnward t p (by_seats seat left ss)
unfolding by_seats
seated zero seat t p [] a h le = tt
seated zero seat t p (s ∷ ss) a h le = absurd (let low = a.0.0 in let high = a.0.1 in omega (arith, low, high))
seated (suc left) seat t p ss a h le =
    let rest : List SavedSurvey = filter (λ s. not (is_of seat s)) ss in
    let high : seat + suc left ≡ seat + 1 + left = omega arith in
    one_then seat 0 t p (filter (is_of seat) ss) (by_seats (seat + 1) left rest) (all_of seat ss) (h seat (omega arith))
    (elim le [ inl m ↦ inl m | inr m ↦ let e = m.1 in inr (m.0, omega (arith, e)) ])
    (λ u r lt. seated left (seat + 1) u r rest (subst (λ (n : ℕ). Seats (seat + 1) n rest) high (others seat (seat + suc left) ss a)) (from_next seat ss h) (inl lt))

pub by_seats_onward : (limit : ℕ) (ss : List SavedSurvey) → Seats 0 limit ss → Ordered ss → AreOnward 0 0 (by_seats 0 limit ss)
by_seats_onward limit ss a h = seated limit 0 0 0 ss (subst (λ (n : ℕ). Seats 0 n ss) (let z : limit ≡ 0 + limit = omega arith in z) a) (λ t le. h t) (inr (refl, refl))

-- ---- what holds of each survey holds of each in this order

module _ (P : SavedSurvey → Type 0) where
  pub all_filter : (test : SavedSurvey → Bool) (ss : List SavedSurvey) → AllByRecursion P ss → AllByRecursion P (filter test ss)
  all_filter test [] a = tt
  all_filter test (s ∷ ss) a = by (test s) refl (all_filter test ss a.1)
    where
      by : (b : Bool) → test s ≡ b → AllByRecursion P (filter test ss) → AllByRecursion P (filter test (s ∷ ss))
      by true e h = rw e (a.0, h)
      by false e h = rw e h

  pub all_both : (xs ys : List SavedSurvey) → AllByRecursion P xs → AllByRecursion P ys → AllByRecursion P (xs ++ ys)
  all_both [] ys a b = b
  all_both (x ∷ xs) ys a b = (a.0, all_both xs ys a.1 b)

  pub all_by_seats : (left seat : ℕ) (ss : List SavedSurvey) → AllByRecursion P ss → AllByRecursion P (by_seats seat left ss)
  unfolding by_seats
  all_by_seats zero seat ss a = a
  all_by_seats (suc left) seat ss a =
      all_both (filter (is_of seat) ss) (by_seats (seat + 1) left (filter (λ s. not (is_of seat s)) ss)) (all_filter (is_of seat) ss a)
      (all_by_seats left (seat + 1) (filter (λ s. not (is_of seat s)) ss) (all_filter (λ s. not (is_of seat s)) ss a))

-- a segment's surveys, shifted, after those before it
pub shifted_onward : (f : SavedSurvey → SavedSurvey) (base seat p : ℕ) (ss : List SavedSurvey) → ((s : SavedSurvey) → (f s).seat ≡ s.seat)
    → AllByRecursion (λ (s : SavedSurvey). (f s).position ≡ base + s.position) ss → Onward p (filter (is_of seat) ss) → Onward (base + p) (filter (is_of seat) (map f ss))
shifted_onward f base seat p [] seats a o = tt
shifted_onward f base seat p (s ∷ ss) seats a o = by (eqb s.seat seat) refl (λ q. shifted_onward f base seat q ss seats a.1) o
  where
    by : (b : Bool) → eqb s.seat seat ≡ b → ((q : ℕ) → Onward q (filter (is_of seat) ss) → Onward (base + q) (filter (is_of seat) (map f ss))) → Onward p (filter (is_of seat) (s ∷ ss)) → Onward (base + p) (filter (is_of seat) (map f (s ∷ ss)))
    by true e more = rw (seats s, e) (λ (h : Onward p (s ∷ filter (is_of seat) ss)).
        let at = a.0 in let first = h.0 in
        (omega (arith, at, first), subst (λ (n : ℕ). Onward n (filter (is_of seat) (map f ss))) (sym at) (more s.position h.1)))
    by false e more = rw (seats s, e) (λ (h : Onward p (filter (is_of seat) ss)). more p h)
