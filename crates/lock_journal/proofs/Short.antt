-- Locks that are short, and what an answer changes of them.
use Rattle.std.proofs.Common.{◌≡◌, ℕ, suc, Bool, true, false, List, [], ◌∷◌, length, Some, None, refl, sym, ◌∙◌, ap, inl, inr, slice_get, zero, ◌||◌}
use Rattle.std.specs.Prelude.{◌+◌, ◌≢◌, nat_lt}
use Rattle.std.proofs.lemmas.Bool.{or_parts, or_from}
use Rattle.ring_model.specs.declared.events.Event.{Event}
use Rattle.endless_ring.specs.Endless.{IsSameEndless}
use Rattle.held_locks.specs.declared.answers.Waiter.{Waiter}
use Rattle.held_locks.specs.declared.answers.Answers.{Answers}
use Rattle.held_locks.specs.Queues.{Lock}
use Rattle.held_locks.specs.Locks.{Ask}
use Rattle.held_locks.specs.Promises.{leaves}
use Rattle.held_locks.specs.Kept.{LockView, IsAnswer, locks_of, IsLeft, lock_of, IsDone, IsLack}
use Rattle.ring_model.specs.Limits.{machine_limit, event_limit}
use Rattle.held_locks.specs.Asked.{IsAnswerTo}
use Rattle.held_locks.proofs.Asking.{as_answer, after_long, views_long}
use Rattle.lock_journal.specs.Counting.{IsWatched}
use Rattle.lock_journal.specs.Due.{has_short, is_short, is_short_at}

pub none_at : (vs : List LockView) (i : ℕ) → has_short vs ≡ false → is_short_at (slice_get vs i) ≡ false
none_at [] i e = refl
none_at (v ∷ vs) zero e = (or_parts (is_short v) (has_short vs) e).0
none_at (v ∷ vs) (suc i) e = none_at vs i (or_parts (is_short v) (has_short vs) e).1

pub none_all : (vs : List LockView) → ((i : ℕ) → is_short_at (slice_get vs i) ≡ false) → has_short vs ≡ false
none_all [] f = refl
none_all (v ∷ vs) f = or_from (is_short v) (has_short vs) (f 0) (none_all vs (λ i. f (suc i)))

or_none : (a b : Bool) → b ≡ false → (a || b) ≡ a
or_none true b e = refl
or_none false b e = e

only : (vs : List LockView) (i : ℕ) → ((j : ℕ) → j ≢ i → is_short_at (slice_get vs j) ≡ false) → has_short vs ≡ is_short_at (slice_get vs i)
only [] i f = refl
only (v ∷ vs) zero f = or_none (is_short v) (has_short vs) (none_all vs (λ i. f (suc i) (λ e. cc)))
only (v ∷ vs) (suc i) f = ap (λ (b : Bool). b || has_short vs) (f 0 (λ e. cc)) ∙ only vs i (λ j n. f (suc j) (λ e. n cc))

-- ---- the locks beside the one that is asked

pub short_like : (v w : LockView) → lock_of w ≡ lock_of v → IsSameEndless v.ring w.ring → is_short w ≡ is_short v
short_like v w l s =
    let line : w.queue ≡ v.queue = ap (λ (x : Lock). x.queue) l in
    let history : w.ring.ring.book.history ≡ v.ring.ring.book.history = ap (λ b. b.history) s.ring.book in
    ap (λ (h : List Event). nat_lt event_limit (length h + (length w.queue + (machine_limit + 1)))) history
    ∙ ap (λ (x : List Waiter). nat_lt event_limit (length v.ring.ring.book.history + (length x + (machine_limit + 1)))) line

some_one : {X : Type 0} (x y : X) → Some x ≡ Some y → x ≡ y
some_one x y e = cc

some_none : {X : Type 0} (x : X) → Some x ≡ None → ⊥
some_none x e = cc

lack_still : (old new : List LockView) (i : ℕ) (ask : Ask) (r : Answers) → IsLack old new i ask r → (j : ℕ) → is_short_at (slice_get new j) ≡ is_short_at (slice_get old j)
lack_still old new i ask r w j = ap (λ (vs : List LockView). is_short_at (slice_get vs j)) w.same

done_still : (old new : List LockView) (c i : ℕ) (ask : Ask) (r : Answers) → IsDone old new c i ask r → (j : ℕ) → j ≢ i → is_short_at (slice_get new j) ≡ is_short_at (slice_get old j)
done_still old new c i ask r d j n = ap is_short_at (d.others j n)

answer_still : (old new : List LockView) (c i : ℕ) (ask : Ask) (r : Answers) → IsAnswer old new c i ask r → (j : ℕ) → j ≢ i → is_short_at (slice_get new j) ≡ is_short_at (slice_get old j)
answer_still old new c i ask r (inl d) j n = done_still old new c i ask r d j n
answer_still old new c i ask r (inr w) j n = lack_still old new i ask r w j

pub short_after : (old new : List LockView) (c i : ℕ) (ask : Ask) (r : Answers) (short : Bool) → IsAnswerTo old new c i ask r → IsWatched old short → (short || is_short_at (slice_get new i)) ≡ (short || has_short new)
short_after old new c i ask r true a w = refl
short_after old new c i ask r false a w =
    sym (only new i (λ j n. answer_still old new c i ask r (as_answer old new c i ask r a) j n ∙ none_at old j (w refl)))

pub watched_after : (new : List LockView) (short now : Bool) → now ≡ (short || has_short new) → IsWatched new now
watched_after new short now e = λ f. (or_parts short (has_short new) (sym e ∙ f)).1

-- ---- as many locks as before

pub left_long : (old new : List LockView) (c : ℕ) (said : List _) → IsLeft old new c said → length new ≡ length old
left_long old new c said l = views_long old new _ l.locks (after_long (locks_of old) (leaves c (length old)))
