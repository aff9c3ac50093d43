-- Asks of one lock: of one that there is not; how many events its ring has; and as many locks as before.
use Rattle.std.proofs.Common.{◌≡◌, ℕ, ◌<◌, ◌≤◌, List, [], ◌∷◌, length, get_or, Option, Some, None, slice_get, refl, sym, ap, ◌∙◌, inl, inr}
use Rattle.std.proofs.lemmas.List.{length-map, length-set}
use Rattle.std.proofs.lemmas.Option.{slice_get_past}
use Rattle.held_locks.specs.declared.answers.Answer.TheVariants as answer
use Rattle.held_locks.specs.declared.answers.Answers.{Answers}
use Rattle.held_locks.specs.declared.answers.Refusal.TheVariants as refusal
use Rattle.held_locks.specs.declared.parts.LockParts.{LockParts}
use Rattle.held_locks.specs.Queues.{Lock}
use Rattle.held_locks.specs.Locks.{Ask, Acquire, Try, Release, Cancel, Leave, Corrupt, Stats, Input, Asked, Restart, step, step_at, restarted}
use Rattle.held_locks.specs.Promises.{locks_after}
use Rattle.held_locks.specs.Kept.{LockView, lock_of, locks_of, AreKept, IsDone, IsAnswer}
use Rattle.held_locks.specs.Asked.{IsAnswerTo, events_at}
use Rattle.held_locks.specs.Parts.{view_of, views_of}
use Rattle.held_locks.proofs.Lifting.{no_lock, view_there, part_at}

done : (old new : List LockView) (c i : ℕ) (ask : Ask) (r : Answers) → IsDone old new c i ask r → IsAnswerTo old new c i ask r
done old new c i (Acquire label) r d = inl d
done old new c i (Try label) r d = inl d
done old new c i (Release token) r d = d
done old new c i Cancel r d = d
done old new c i Leave r d = d
done old new c i (Corrupt machine value) r d = inl d
done old new c i Stats r d = d

pub nowhere : (vs : List LockView) (es : List (ℕ × ℕ)) (c i : ℕ) (ask : Ask) (r : Answers) → AreKept vs es → length vs ≤ i → r ≡ record { own = Some (answer.Refused refusal.Lock); ended = None; granted = None } → IsAnswerTo vs vs c i ask r
nowhere vs es c i ask r k l e = done vs vs c i ask r (no_lock vs es c i ask r k l e).0

pub none_there : (vs : List LockView) (i n : ℕ) → length vs ≤ i → n ≡ 0 → n ≡ events_at (slice_get vs i)
none_there vs i n l e = e ∙ sym (ap (λ (x : Option LockView). events_at x) (slice_get_past vs i l))

-- how many events there are
pub some_there : (ps : List LockParts) (i n : ℕ) (p : LockParts) → i < length ps → p ≡ get_or ps i p → n ≡ length p.ring.ring.book.history → n ≡ events_at (slice_get (views_of ps) i)
some_there ps i n p l at e = e ∙ sym (ap (λ (x : Option LockView). events_at x) (view_there ps i p (part_at ps i p l at)))

-- each answer is one that may be a refusal for lack of room or memory
pub as_answer : (old new : List LockView) (c i : ℕ) (ask : Ask) (r : Answers) → IsAnswerTo old new c i ask r → IsAnswer old new c i ask r
as_answer old new c i (Acquire label) r a = a
as_answer old new c i (Try label) r a = a
as_answer old new c i (Release token) r a = inl a
as_answer old new c i Cancel r a = inl a
as_answer old new c i Leave r a = inl a
as_answer old new c i (Corrupt machine value) r a = a
as_answer old new c i Stats r a = inl a

-- ---- as many locks as before

step_long : (ls : List Lock) (i : Input) → length (step ls i).locks ≡ length ls
step_long ls (Asked c i ask) = go (slice_get ls i)
  where
    go : (x : Option Lock) → length (step_at ls c i ask x).locks ≡ length ls
    go None = refl
    go (Some l) = length-set ls i _
step_long ls Restart = length-map ls restarted

pub after_long : (ls : List Lock) (is : List Input) → length (locks_after ls is) ≡ length ls
after_long ls [] = refl
after_long ls (i ∷ is) = after_long (step ls i).locks is ∙ step_long ls i

pub views_long : (old new : List LockView) (ls : List Lock) → locks_of new ≡ ls → length ls ≡ length (locks_of old) → length new ≡ length old
views_long old new ls e n = sym (length-map new lock_of) ∙ ap (λ (x : List Lock). length x) e ∙ n ∙ length-map old lock_of

answer_long : (old new : List LockView) (c i : ℕ) (ask : Ask) (r : Answers) → IsAnswer old new c i ask r → length new ≡ length old
answer_long old new c i ask r (inl d) = views_long old new _ d.locks (step_long (locks_of old) (Asked c i ask))
answer_long old new c i ask r (inr w) = ap (λ (vs : List LockView). length vs) w.same

pub asked_long : (old new : List LockView) (c i : ℕ) (ask : Ask) (r : Answers) → IsAnswerTo old new c i ask r → length new ≡ length old
asked_long old new c i ask r a = answer_long old new c i ask r (as_answer old new c i ask r a)

pub parts_long : (ps qs : List LockParts) (c i : ℕ) (ask : Ask) (r : Answers) → IsAnswerTo (views_of ps) (views_of qs) c i ask r → length qs ≡ length ps
parts_long ps qs c i ask r a = sym (length-map qs view_of) ∙ asked_long (views_of ps) (views_of qs) c i ask r a ∙ length-map ps view_of
