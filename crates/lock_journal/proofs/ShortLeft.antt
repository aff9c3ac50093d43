-- Where no lock was short before a client left, only one whose hold ended can be short after it.
use Rattle.std.proofs.Common.{◌≡◌, ℕ, suc, ◌+◌, Bool, true, false, List, [], ◌∷◌, ◌++◌, length, get_or, Option, Some, None, refl, sym, ◌∙◌, ap, subst, inl, inr, arith, slice_get, ◌<◌, take, cond, zero, ◌≤◌, not, ◌||◌}
use Rattle.std.specs.Prelude.{◌-◌, ◌==◌}
use Rattle.std.proofs.lemmas.Bool.{false≢true, cases_eq, or_from, ltb-false, cases_Bool, both_ways, false_from_ne_true, le-ltb, or_cases, or_left, or_right}
use Rattle.std.proofs.lemmas.List.Folds.{list_any-append, list_any_more, list_any_at}
use Rattle.std.proofs.lemmas.Option.{slice_get_within}
use Rattle.ring_model.specs.Limits.{machine_limit, event_limit}
use Rattle.ring_model.specs.declared.events.Event.{Event}
use Rattle.endless_ring.specs.Endless.{IsSameEndless}
use Rattle.held_locks.specs.declared.answers.Left.{Left}
use Rattle.held_locks.specs.declared.answers.Waiter.{Waiter}
use Rattle.held_locks.specs.Queues.{Lock, without, is_held_by}
use Rattle.held_locks.specs.Locks.{Leave, turn}
use Rattle.held_locks.specs.Kept.{LockView, locks_of, IsLeft, lock_of, ended_in, AreMade, left_by, left_at, left_of}
use Rattle.held_locks.proofs.AllLeft.{there_is}
use Rattle.lock_protocol.specs.Names.{Names}
use Rattle.lock_journal.proofs.Counts.{short_there}
use Rattle.lock_journal.proofs.Following.{some_is, lock_there}
use Rattle.lock_journal.proofs.LockLines.{left_lock, left_turn}
use Rattle.lock_journal.proofs.Short.{none_at, left_long, none_all}
use Rattle.lock_journal.specs.Counting.{IsCounted, count_of_all, IsWatched}
use Rattle.lock_journal.specs.Due.{has_short, is_short, is_short_at, has_short_left}

-- ---- one after the other

pub left_there : (vs : List LockView) (left : List Left) (i : ℕ) (d : Left) → i < length left → is_short_at (slice_get vs (get_or left i d).lock) ≡ true → has_short_left vs left ≡ true
left_there vs left i d l e = list_any_at (λ (x : Left). is_short_at (slice_get vs x.lock)) left i d l e

pub left_more : (vs : List LockView) (left : List Left) (i : ℕ) (d : Left) → i < length left → has_short_left vs (take i left) ≡ false → is_short_at (slice_get vs (get_or left i d).lock) ≡ false → has_short_left vs (take (i + 1) left) ≡ false
left_more vs left i d l e f =
    list_any_more (λ (x : Left). is_short_at (slice_get vs x.lock)) left i d l ∙ or_from (has_short_left vs (take i left)) (is_short_at (slice_get vs (get_or left i d).lock)) e f

-- ---- a lock for which the client waited at most

fewer : (c : ℕ) (w : Waiter) (queue : List Waiter) (b : Bool) → length (without c queue) ≤ length queue → length (cond (not b) (w ∷ without c queue) (without c queue)) ≤ suc (length queue)
fewer c w queue true l = let one : length (without c queue) ≤ suc (length queue) = omega (arith, l) in one
fewer c w queue false l = let one : suc (length (without c queue)) ≤ suc (length queue) = omega (arith, l) in one

without_fewer : (c : ℕ) (queue : List Waiter) → length (without c queue) ≤ length queue
without_fewer c [] = omega arith
without_fewer c (w ∷ queue) = fewer c w queue (w.client == c) (without_fewer c queue)

not_shorter : (c : ℕ) (v w : LockView) (b : Bool) → b ≡ false → lock_of w ≡ (left_turn c v b).lock → AreMade v.ring (left_turn c v b).marks w.ring → is_short v ≡ false → is_short w ≡ false
not_shorter c v w true f lock made e = absurd (false≢true (sym f))
not_shorter c v w false f lock made e =
    let queue : w.queue ≡ without c v.queue = ap (λ (x : Lock). x.queue) lock in
    let still : IsSameEndless v.ring w.ring = made in
    let history : w.ring.ring.book.history ≡ v.ring.ring.book.history = ap (λ b. b.history) still.ring.book in
    let few : length w.queue ≤ length v.queue = subst (λ (x : List Waiter). length x ≤ length v.queue) (sym queue) (without_fewer c v.queue) in
    let same : length w.ring.ring.book.history ≡ length v.ring.ring.book.history = ap (λ (x : List Event). length x) history in
    let room = ltb-false event_limit (length v.ring.ring.book.history + (length v.queue + (machine_limit + 1))) e in
    le-ltb event_limit (length w.ring.ring.book.history + (length w.queue + (machine_limit + 1))) (omega (arith, few, same, room))

-- ---- all of them

module _ (old new : List LockView) (c : ℕ) (said : List Left) (d : IsLeft old new c said) where
  -- what is reported of a lock that the client held
  held_one : (n : ℕ) (v : LockView) (b : Bool) → b ≡ true → is_short_at (slice_get new n) ≡ true → has_short_left new (left_by n (ended_in v.ring (left_turn c v b).marks) (left_turn c v b).lock.holder) ≡ true
  held_one n v true e s = or_left (is_short_at (slice_get new n)) false s
  held_one n v false e s = absurd (false≢true e)

  held_of : (n i : ℕ) (v : LockView) → i < n → slice_get old i ≡ Some v → is_held_by c v.holder ≡ true → is_short_at (slice_get new i) ≡ true → has_short_left new (left_of c old n) ≡ true
  held_of zero i v l at h s = absurd (omega (arith, l))
  held_of (suc n) i v l at h s =
      list_any-append (λ (x : Left). is_short_at (slice_get new x.lock)) (left_of c old n) (left_at c n (slice_get old n))
      ∙ elim (cases_eq i n) [
        | inl q ↦
            let here : slice_get old n ≡ Some v = ap (λ (k : ℕ). slice_get old k) (sym q) ∙ at in
            let short : is_short_at (slice_get new n) ≡ true = ap (λ (k : ℕ). is_short_at (slice_get new k)) (sym q) ∙ s in
            or_right (has_short_left new (left_of c old n)) (has_short_left new (left_at c n (slice_get old n)))
            (ap (λ (o : Option LockView). has_short_left new (left_at c n o)) here ∙ held_one n v (is_held_by c v.holder) h short)
        | inr q ↦ or_left (has_short_left new (left_of c old n)) (has_short_left new (left_at c n (slice_get old n))) (held_of n i v (omega (arith, l, q)) at h s)
      ]

  held_said : (i : ℕ) (v : LockView) → i < length old → slice_get old i ≡ Some v → is_held_by c v.holder ≡ true → is_short_at (slice_get new i) ≡ true → has_short_left new said ≡ true
  held_said i v l at h s = ap (λ (x : List Left). has_short_left new x) d.told ∙ held_of (length old) i v l at h s

  others_not : (i : ℕ) (v w : LockView) → i < length old → slice_get old i ≡ Some v → slice_get new i ≡ Some w → is_held_by c v.holder ≡ false → is_short v ≡ false → is_short w ≡ false
  others_not i v w l at there h e =
      let lock : lock_of w ≡ (turn (locks_of old) (lock_of v) c Leave).lock = some_is (lock_of w) (turn (locks_of old) (lock_of v) c Leave).lock
      (sym (lock_there new i w there) ∙ (ap (λ (x : List Lock). slice_get x i) d.locks ∙ left_lock (locks_of old) c (length old) i (lock_of v) (lock_there old i v at) l)) in
      not_shorter c v w (is_held_by c v.holder) h lock (d.marks i v w at there) e

  none_short : has_short old ≡ false → has_short_left new said ≡ false → (i : ℕ) (o : Option LockView) → slice_get new i ≡ o → is_short_at o ≡ false
  none_short none not_said i None f = refl
  none_short none not_said i (Some w) f =
      let below = slice_get_within new i w f in
      let many = left_long old new c said d in
      let v = there_is old i (omega (arith, below, many)) in
      let was : is_short v.0 ≡ false = subst (λ (x : Option LockView). is_short_at x ≡ false) v.1 (none_at old i none) in
      elim (cases_Bool (is_held_by c v.0.holder)) [
        | inl h ↦ false_from_ne_true (is_short w) (λ s. both_ways (has_short_left new said) not_said (held_said i v.0 (omega (arith, below, many)) v.1 h (ap (λ (x : Option LockView). is_short_at x) f ∙ s)))
        | inr h ↦ others_not i v.0 w (omega (arith, below, many)) v.1 f h was
      ]

  some_short : (xs : List Left) → has_short_left new xs ≡ true → has_short new ≡ true
  some_short [] e = absurd (false≢true e)
  some_short (x ∷ xs) e = elim (or_cases (is_short_at (slice_get new x.lock)) (has_short_left new xs) e) [
    | inl f ↦ short_there new x.lock f
    | inr f ↦ some_short xs f
  ]

  same_short : has_short old ≡ false → (b : Bool) → has_short_left new said ≡ b → has_short_left new said ≡ has_short new
  same_short none true e = e ∙ sym (some_short said e)
  same_short none false e = e ∙ sym (none_all new (λ i. none_short none e i (slice_get new i) refl))

  pub short_left : (short : Bool) → IsWatched old short → (short || has_short_left new said) ≡ (short || has_short new)
  short_left true w = refl
  short_left false w = same_short (w refl) (has_short_left new said) refl

  -- what is counted then
  pub left_counted : (names : Names) (before was left first second : List Left) (from remaining : ℕ) (short any now : Bool) → was ≡ [] → left ≡ was ++ said → first ≡ left → second ≡ left → IsWatched old short →
      remaining ≡ from - count_of_all new first → any ≡ has_short_left new second → now ≡ (short || any) →
      IsCounted (record { locks = old; names = names; left = before; remaining = from; short = short }) (record { locks = new; names = names; left = left; remaining = remaining; short = now }) (count_of_all new left)
  left_counted names before was left first second from remaining short any now w l f s watched r a n =
      let all : left ≡ said = l ∙ ap (λ (x : List Left). x ++ said) w in
      let same : any ≡ has_short_left new said = a ∙ ap (λ (x : List Left). has_short_left new x) (s ∙ all) in record {
        names = refl;
        remaining = r ∙ ap (λ (x : List Left). from - count_of_all new x) f;
        short = n ∙ (ap (λ (b : Bool). short || b) same ∙ short_left short watched);
      }
