-- A client that leaves the locks that it holds or waits for, one after the other, has left all locks.
use Rattle.std.proofs.Common.{◌≡◌, ℕ, zero, suc, ◌+◌, ◌-◌, ◌<◌, ◌≤◌, false, List, [], ◌++◌, length, get_or, refl, sym, ◌∙◌, ap, subst, inl, inr, arith, Some, None}
use Rattle.std.specs.Prelude.{slice_get, ◌⊎◌}
use Rattle.std.specs.List.Sorted.{IsStrictlySortedBy}
use Rattle.std.specs.Ordering.{nat_cmp}
use Rattle.std.proofs.lemmas.Bool.{false_from_ne_true, cases_eq}
use Rattle.std.proofs.lemmas.List.{append-nil, length-map}
use Rattle.std.proofs.lemmas.Map.Keys.{below_from_sorted}
use Rattle.std.proofs.lemmas.Option.{slice_get_within, slice_get-get_or, get_or_from_slice_get}
use Rattle.held_locks.specs.declared.answers.Answers.{Answers}
use Rattle.held_locks.specs.declared.answers.Left.{Left}
use Rattle.held_locks.specs.declared.parts.LockParts.{LockParts}
use Rattle.held_locks.specs.Queues.{stands, is_held_by}
use Rattle.held_locks.specs.Locks.{Leave, Turn, turn}
use Rattle.held_locks.specs.Kept.{LockView, lock_of, AreKept, IsDone, left_by, IsLeft}
use Rattle.held_locks.specs.Parts.{view_of, views_of, IsTurnedIn}
use Rattle.held_locks.specs.Holding.{IsAt, AreLocksOf}
use Rattle.held_locks.proofs.Turned.{leave_out, not_there}
use Rattle.held_locks.proofs.Lifting.{lifted_done, lock_kept, parts_same, view_there}
use Rattle.held_locks.proofs.Linking.{same_nat, there_is}
use Rattle.held_locks.proofs.AllLeft.{AreLeft, none_left, more_left, all_left}

-- a leave of a lock that the client neither holds nor waits for does nothing
nothing_done : (ps : List LockParts) (es : List (ℕ × ℕ)) (c i : ℕ) (p : LockParts) → AreKept (views_of ps) es → slice_get ps i ≡ Some p → ¬ IsAt c (view_of p) →
    IsDone (views_of ps) (views_of ps) c i Leave (record { own = None; ended = None; granted = None })
nothing_done ps es c i p k at n =
    let r : Answers = record { own = None; ended = None; granted = None } in
    let out : is_held_by c p.holder ≡ false = false_from_ne_true (is_held_by c p.holder) (λ h. n (inl h)) in
    let off : stands c p.queue.items ≡ false = false_from_ne_true (stands c p.queue.items) (λ s. n (inr s)) in
    let t : IsTurnedIn i (view_of p) (view_of p) es es c (turn [] (lock_of (view_of p)) c Leave) r =
    subst (λ (t : Turn). IsTurnedIn i (view_of p) (view_of p) es es c t r) (leave_out (view_of p) c out) (not_there i (view_of p) es c r (lock_kept ps es i p k at) off refl) in
    (lifted_done ps ps es es c i Leave p p (turn [] (lock_of (view_of p)) c Leave) r k at (parts_same ps i p at) refl t).0

module _ (ps : List LockParts) (es : List (ℕ × ℕ)) (old : List LockView) (c : ℕ) (said : List Left) (k : AreKept (views_of ps) es) (many : length (views_of ps) ≡ length old) where
  pass_by : (n : ℕ) → n < length old → ((v : LockView) → slice_get old n ≡ Some v → ¬ IsAt c v) → AreLeft old (views_of ps) c n said → AreLeft old (views_of ps) c (n + 1) said
  pass_by n l none a =
      let size : length (views_of ps) ≡ length ps = length-map ps view_of in
      let p = there_is ps n (omega (arith, l, many, size)) in
      let at : slice_get (views_of ps) n ≡ Some (view_of p.0) = view_there ps n p.0 p.1 in
      let before : slice_get old n ≡ Some (view_of p.0) = sym (a.rest n (omega arith)) ∙ at in
      let d = nothing_done ps es c n p.0 k p.1 (none (view_of p.0) before) in
      subst (λ (x : List Left). AreLeft old (views_of ps) c (n + 1) x) (append-nil said)
      (more_left ps ps old c n said (record { own = None; ended = None; granted = None }) (omega (arith, l, many, size)) a d refl)

  -- a number of locks are passed by
  pub skip : (gap n : ℕ) → n + gap ≤ length old → ((j : ℕ) (v : LockView) → n ≤ j → j < n + gap → slice_get old j ≡ Some v → ¬ IsAt c v) → AreLeft old (views_of ps) c n said → AreLeft old (views_of ps) c (n + gap) said
  skip zero n l none a = let e : n ≡ n + 0 = omega arith in subst (λ (x : ℕ). AreLeft old (views_of ps) c x said) e a
  skip (suc gap) n l none a =
      let e : (n + 1) + gap ≡ n + suc gap = omega arith in
      subst (λ (x : ℕ). AreLeft old (views_of ps) c x said) e
      (skip gap (n + 1) (omega arith) (λ j v m b. none j v (omega (arith, m)) (omega (arith, b))) (pass_by n (omega arith) (λ v. none n v (omega arith) (omega arith)) a))

  pub skip_to : (n m : ℕ) → n ≤ m → m ≤ length old → ((j : ℕ) (v : LockView) → n ≤ j → j < m → slice_get old j ≡ Some v → ¬ IsAt c v) → AreLeft old (views_of ps) c n said → AreLeft old (views_of ps) c m said
  skip_to n m l b none a =
      let e : n + (m - n) ≡ m = omega arith in
      subst (λ (x : ℕ). AreLeft old (views_of ps) c x said) e (skip (m - n) n (omega (arith, l, b)) (λ j v x y. none j v x (omega (arith, y, l))) a)

-- The client has left the locks below a number, and those of the order from this place on are all
-- that is left of those that it holds or waits for.
pub record IsLeaving (old now : List LockView) (c : ℕ) (order : List ℕ) (k : ℕ) (from : ℕ) (said : List Left) : Type 0 where
  pub left : AreLeft old now c from said
  pub within : from ≤ length old
  pub more : (i j : ℕ) → k ≤ i → slice_get order i ≡ Some j → from ≤ j
  pub rest : (j : ℕ) (v : LockView) → from ≤ j → slice_get old j ≡ Some v → IsAt c v → (i : ℕ) × ((k ≤ i) × (slice_get order i ≡ Some j))

pub none_leaving : (old : List LockView) (c : ℕ) (order : List ℕ) → AreLocksOf c old order → IsLeaving old old c order 0 0 []
none_leaving old c order o = record {
  left = none_left old c;
  within = omega arith;
  more = λ i j l e. omega arith;
  rest = λ j v l e a. let x = o.all j v e a in (x.0, (omega arith, slice_get-get_or order x.0 j x.1 ∙ ap (λ (n : ℕ). Some n) x.2));
}

rising_at : (order : List ℕ) (i k a b : ℕ) → IsStrictlySortedBy nat_cmp order → i < k → slice_get order i ≡ Some a → slice_get order k ≡ Some b → a < b
rising_at order i k a b s l e f =
    let x : get_or order i 0 ≡ a = get_or_from_slice_get order i a 0 e in
    let y : get_or order k 0 ≡ b = get_or_from_slice_get order k b 0 f in
    let z : get_or order i 0 < get_or order k 0 = below_from_sorted order i k 0 s l (slice_get_within order k b f) in
    omega (arith, x, y, z)

module _ (ps : List LockParts) (es : List (ℕ × ℕ)) (old : List LockView) (c : ℕ) (order : List ℕ) (k from : ℕ) (said : List Left) (kept : AreKept (views_of ps) es) (many : length (views_of ps) ≡ length old) (o : AreLocksOf c old order) (g : IsLeaving old (views_of ps) c order k from said) where
  -- the next lock of the order is one of those that there are
  pub next_within : (n : ℕ) → slice_get order k ≡ Some n → n < length old
  next_within n e =
      let l = slice_get_within order k n e in
      let v = o.within n (k, l, get_or_from_slice_get order k n n e) in
      slice_get_within old n v.0 v.1.0

  -- the locks before it are passed by
  pub at_next : (n : ℕ) → slice_get order k ≡ Some n → AreLeft old (views_of ps) c n said
  at_next n e =
      let within = next_within n e in
      skip_to ps es old c said kept many from n (g.more k n (omega arith) e) (omega (arith, within)) (λ j v l b at a.
      let x = g.rest j v l at a in
      let f = x.1.1 in
      elim (places x.0 k x.1.0) [
        | inl q ↦ let same : j ≡ n = same_nat j n (sym f ∙ ap (λ (i : ℕ). slice_get order i) q ∙ e) in omega (arith, same, b)
        | inr q ↦ let past : n < j = rising_at order k x.0 n j o.rising q e f in omega (arith, past, b)
      ]) g.left
    where
      places : (i k : ℕ) → k ≤ i → (i ≡ k) ⊎ (k < i)
      places i k l = elim (cases_eq i k) [
        | inl q ↦ inl q
        | inr n ↦ inr (omega (arith, n, l))
      ]

  -- and then it is left
  pub one_left : (qs : List LockParts) (n : ℕ) (r : Answers) → slice_get order k ≡ Some n → IsDone (views_of ps) (views_of qs) c n Leave r → r.own ≡ None → IsLeaving old (views_of qs) c order (k + 1) (n + 1) (said ++ left_by n r.ended r.granted)
  one_left qs n r e d own =
      let within = next_within n e in
      let size : length (views_of ps) ≡ length ps = length-map ps view_of in record {
        left = more_left ps qs old c n said r (omega (arith, within, many, size)) (at_next n e) d own;
        within = omega (arith, within);
        more = λ i j l f. let past : n < j = rising_at order k i n j o.rising (omega (arith, l)) e f in omega (arith, past);
        rest = λ j v l at a.
            let low = g.more k n (omega arith) e in
            let x = g.rest j v (omega (arith, l, low)) at a in
            (x.0, (by j x.0 l x.1.0 x.1.1, x.1.1));
      }
    where
      by : (j i : ℕ) → n + 1 ≤ j → k ≤ i → slice_get order i ≡ Some j → k + 1 ≤ i
      by j i l m f = elim (cases_eq i k) [
        | inl q ↦ let same : j ≡ n = same_nat j n (sym f ∙ ap (λ (x : ℕ). slice_get order x) q ∙ e) in absurd (omega (arith, same, l))
        | inr q ↦ omega (arith, q, m)
      ]

  -- at the end of the order all locks are left
  pub end_left : length order ≤ k → IsLeft old (views_of ps) c said
  end_left l =
      let within = g.within in
      all_left old (views_of ps) c (length old) said refl
      (skip_to ps es old c said kept many from (length old) within (omega arith) (λ j v m b at a.
      let x = g.rest j v m at a in
      let y = slice_get_within order x.0 j x.1.1 in
      let z = x.1.0 in
      omega (arith, y, z, l)) g.left)
