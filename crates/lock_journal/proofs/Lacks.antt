-- The machine refuses nobody for lack of room or memory; and a client that is so refused has
-- changed nothing.
use Rattle.std.proofs.Common.{◌≡◌, ℕ, Bool, true, false, List, [], ◌∷◌, ◌++◌, length, Option, Some, None, refl, sym, ◌∙◌, ap, inl, inr, slice_get, if◌then◌else◌}
use Rattle.std.specs.Prelude.{is_some, nat_le}
use Rattle.std.proofs.lemmas.Bool.{false≢true}
use Rattle.held_locks.specs.declared.answers.Waiter.{Waiter}
use Rattle.held_locks.specs.declared.answers.Holder.{Holder}
use Rattle.held_locks.specs.declared.answers.Answer.{Answer}
use Rattle.held_locks.specs.declared.answers.Answers.{Answers}
use Rattle.held_locks.specs.Queues.{Lock, stands, without, is_held_by, is_held_with, waits_for, client_of, comes_to}
use Rattle.held_locks.specs.Locks.{Ask, Acquire, Try, Release, Cancel, Corrupt, Stats, Leave, told, ended, dropped, faulted, joined, acquired, tried, tried_of, turn, step_at}
use Rattle.ring_model.specs.History.{State}
use Rattle.held_locks.specs.Kept.{LockView, IsAnswer, other_grant, locks_of, IsDone, own_answer}
use Rattle.held_locks.specs.Asked.{IsAnswerTo}
use Rattle.held_locks.proofs.Asking.{as_answer}
use Rattle.lock_journal.specs.Asking.{is_lack}
use Rattle.held_locks.specs.declared.answers.Answer.TheVariants as answer
use Rattle.held_locks.specs.declared.answers.Refusal.TheVariants as refusal

-- ---- the machine never answers so

abbrev begins_lack : List (ℕ × Answer) → Bool
begins_lack [] = false
begins_lack ((c, a) ∷ more) = is_lack (Some a)

joined_not : (l : Lock) (w : Waiter) (h : Option Holder) → begins_lack (joined l w h).answers ≡ false
joined_not l w None = refl
joined_not l w (Some h) = refl

tried_not : (l : Lock) (w : Waiter) (h : Option Holder) → begins_lack (tried_of l w h).answers ≡ false
tried_not l w None = refl
tried_not l w (Some h) = refl

left_not : (a : State ℕ) (line : List Waiter) → begins_lack (ended a line 2 []).answers ≡ false
left_not a [] = refl
left_not a (w ∷ line) = refl

turn_not : (ls : List Lock) (l : Lock) (c : ℕ) (ask : Ask) → begins_lack (turn ls l c ask).answers ≡ false
turn_not ls l c (Acquire order) = go (is_held_by c l.holder) (is_some (waits_for ls c)) (comes_to (length ls) ls c (client_of l.holder))
  where
    go : (x y z : Bool) → begins_lack (acquired l (record { client = c; label = order }) (if x then Some refusal.Holds else if y then Some refusal.Waits else if z then Some refusal.Circle else None)).answers ≡ false
    go true y z = refl
    go false true z = refl
    go false false true = refl
    go false false false = joined_not l (record { client = c; label = order }) l.holder
turn_not ls l c (Try order) = go (is_held_by c l.holder) (stands c l.queue)
  where
    go : (x y : Bool) → begins_lack (tried l (record { client = c; label = order }) (if x then Some refusal.Holds else if y then Some refusal.Waits else None)).answers ≡ false
    go true y = refl
    go false true = refl
    go false false = tried_not l (record { client = c; label = order }) l.holder
turn_not ls l c (Release token) = go (is_held_with c token l.holder)
  where
    go : (x : Bool) → begins_lack (if x then ended l.ring l.queue 1 ((c, answer.Released) ∷ []) else told l c (answer.Refused refusal.Holder)).answers ≡ false
    go true = refl
    go false = refl
turn_not ls l c Cancel = go (stands c l.queue)
  where
    go : (x : Bool) → begins_lack (if x then dropped l c ((c, answer.Cancelled) ∷ []) else told l c (answer.Refused refusal.Waiter)).answers ≡ false
    go true = refl
    go false = refl
turn_not ls l c Leave = go (is_held_by c l.holder)
  where
    go : (x : Bool) → begins_lack (if x then ended l.ring (without c l.queue) 2 [] else dropped l c []).answers ≡ false
    go true = left_not l.ring (without c l.queue)
    go false = refl
turn_not ls l c (Corrupt i v) = go (nat_le (length l.ring.ring.values) i) (nat_le l.ring.ring.k v)
  where
    go : (x y : Bool) → begins_lack (if x then told l c (answer.Refused refusal.Machine) else if y then told l c (answer.Refused refusal.Value) else faulted l c i v).answers ≡ false
    go true y = refl
    go false true = refl
    go false false = refl
turn_not ls l c Stats = refl

step_not : (ls : List Lock) (c i : ℕ) (ask : Ask) (x : Option Lock) → begins_lack (step_at ls c i ask x).answers ≡ false
step_not ls c i ask None = refl
step_not ls c i ask (Some l) = turn_not ls l c ask

own_lack : (c : ℕ) (own : Option Answer) (granted : Option Holder) → is_lack own ≡ true → begins_lack (own_answer c own ++ other_grant granted) ≡ true
own_lack c None granted e = absurd (false≢true e)
own_lack c (Some a) granted e = e

pub done_not : (old new : List LockView) (c i : ℕ) (ask : Ask) (r : Answers) → IsDone old new c i ask r → is_lack r.own ≡ true → ⊥
done_not old new c i ask r d e = false≢true (sym (step_not (locks_of old) c i ask (slice_get (locks_of old) i)) ∙ sym (ap begins_lack d.answers) ∙ own_lack c r.own r.granted e)

-- ---- nothing has changed

pub lack_same : (old new : List LockView) (c i : ℕ) (ask : Ask) (r : Answers) → IsAnswer old new c i ask r → is_lack r.own ≡ true → (new ≡ old) × (r.ended ≡ None)
lack_same old new c i ask r (inl d) e = absurd (done_not old new c i ask r d e)
lack_same old new c i ask r (inr w) e = (w.same, w.none.0)

pub lacking_same : (old new : List LockView) (c i : ℕ) (ask : Ask) (r : Answers) → IsAnswerTo old new c i ask r → is_lack r.own ≡ true → (new ≡ old) × (r.ended ≡ None)
lacking_same old new c i ask r a e = lack_same old new c i ask r (as_answer old new c i ask r a) e
