-- Which answers a turn has that report a grant or a release.
use Rattle.std.proofs.Common.{◌≡◌, ℕ, suc, ◌+◌, Bool, true, false, List, [], ◌∷◌, ◌++◌, map, length, get_or, Option, Some, None, refl, sym, ◌∙◌, ap, subst, inl, inr, arith, slice_get}
use Rattle.std.specs.Prelude.{if◌then◌else◌, nat_le}
use Rattle.std.specs.List.{AllByRecursion}
use Rattle.std.proofs.lemmas.Bool.{false≢true}
use Rattle.ring_model.specs.Ring.{IsRing}
use Rattle.ring_model.specs.History.{State}
use Rattle.ring_model.specs.declared.events.Event.{Event}
use Rattle.ring_model.specs.Bases.{shifted_event, shifted}
use Rattle.ring_service.specs.Standings.{Standing, survey_now, with_survey}
use Rattle.ring_service.specs.Recovered.{HasGrown}
use Rattle.held_locks.specs.declared.answers.Waiter.{Waiter}
use Rattle.held_locks.specs.declared.answers.Holder.{Holder}
use Rattle.held_locks.specs.declared.answers.Answer.{Answer}
use Rattle.held_locks.specs.declared.answers.Refusal.{Refusal}
use Rattle.held_locks.specs.Queues.{Lock, stands, without, is_held_by, is_held_with}
use Rattle.held_locks.specs.Grants.{advanced}
use Rattle.held_locks.specs.Locks.{Ask, Acquire, Try, Release, Cancel, Corrupt, Stats, Mark, Leave, Survey, Turn, told, called, first_pass, granted, ended, dropped, faulted, joined, acquired, acquire_refusal, tried, tried_of, try_refusal, turn}
use Rattle.held_locks.specs.Promises.{number_of, events_of}
use Rattle.held_locks.proofs.Rings.{grant_number}
use Rattle.lock_protocol.specs.Names.{Names, name_of, lock_named}
use Rattle.lock_protocol.specs.declared.answers.Denial.{Denial}
use Rattle.lock_protocol.specs.Answers.{answer_line, denial_line}
use Rattle.lock_journal.specs.Noting.{lines_about}
use Rattle.lock_journal.specs.Told.{IsGrantIn, IsToldIn, Telling, text_of, IsText}
use Rattle.held_locks.specs.declared.answers.Answer.TheVariants as answer
use Rattle.held_locks.specs.declared.answers.Refusal.TheVariants as refusal

-- an answer that reports no grant and no release
abbrev pub is_quiet : Answer → Bool
is_quiet (answer.Granted token) = false
is_quiet answer.Released = false
is_quiet _ = true

abbrev pub AreQuiet : List (ℕ × Answer) → Type 0
AreQuiet answers = AllByRecursion (λ (a : ℕ × Answer). is_quiet a.1 ≡ true) answers

-- a turn reports neither; or it is a grant, a release, or the end of a hold by a leave
pub data Tells (a : State ℕ) (c : ℕ) (t : Turn) : Type 0 where
  Quiet : AreQuiet t.answers → Tells a c t
  Grants : (line : List Waiter) (w : Waiter) → t ≡ granted a line w → Tells a c t
  Releases : (line : List Waiter) → t ≡ ended a line 1 ((c, answer.Released) ∷ []) → Tells a c t
  Leaves : (line : List Waiter) → t ≡ ended a line 2 [] → Tells a c t

module _ (ls : List Lock) (l : Lock) (c : ℕ) where
  tells_joined : (w : Waiter) (h : Option Holder) → Tells l.ring c (joined l w h)
  tells_joined w None = Grants l.queue w refl
  tells_joined w (Some h) = Quiet (refl, tt)

  tells_acquired : (w : Waiter) (r : Option Refusal) → Tells l.ring c (acquired l w r)
  tells_acquired w (Some why) = Quiet (refl, tt)
  tells_acquired w None = tells_joined w l.holder

  tells_tried_of : (w : Waiter) (h : Option Holder) → Tells l.ring c (tried_of l w h)
  tells_tried_of w None = Grants l.queue w refl
  tells_tried_of w (Some h) = Quiet (refl, tt)

  tells_tried : (w : Waiter) (r : Option Refusal) → Tells l.ring c (tried l w r)
  tells_tried w (Some why) = Quiet (refl, tt)
  tells_tried w None = tells_tried_of w l.holder

  tells_released : (is : Bool) → Tells l.ring c (if is then ended l.ring l.queue 1 ((c, answer.Released) ∷ []) else told l c (answer.Refused refusal.Holder))
  tells_released true = Releases l.queue refl
  tells_released false = Quiet (refl, tt)

  tells_cancelled : (is : Bool) → Tells l.ring c (if is then dropped l c ((c, answer.Cancelled) ∷ []) else told l c (answer.Refused refusal.Waiter))
  tells_cancelled true = Quiet (refl, tt)
  tells_cancelled false = Quiet (refl, tt)

  tells_left : (is : Bool) → Tells l.ring c (if is then ended l.ring (without c l.queue) 2 [] else dropped l c [])
  tells_left true = Leaves (without c l.queue) refl
  tells_left false = Quiet tt

  tells_broken : (i v : ℕ) (far great : Bool) → Tells l.ring c (if far then told l c (answer.Refused refusal.Machine) else if great then told l c (answer.Refused refusal.Value) else faulted l c i v)
  tells_broken i v true great = Quiet (refl, tt)
  tells_broken i v false true = Quiet (refl, tt)
  tells_broken i v false false = Quiet (refl, tt)

  pub tells_of : (ask : Ask) → Tells l.ring c (turn ls l c ask)
  tells_of (Acquire order) = tells_acquired (record { client = c; label = order }) (acquire_refusal ls l c)
  tells_of (Try order) = tells_tried (record { client = c; label = order }) (try_refusal l c)
  tells_of (Release token) = tells_released (is_held_with c token l.holder)
  tells_of Cancel = tells_cancelled (stands c l.queue)
  tells_of Leave = tells_left (is_held_by c l.holder)
  tells_of (Corrupt i v) = tells_broken i v (nat_le (length l.ring.ring.values) i) (nat_le l.ring.ring.k v)
  tells_of Stats = Quiet (refl, tt)

-- ---- one ring

-- what an answer reports is in the ring
abbrev pub IsShownIn : Standing → Standing → Answer → Type 0
IsShownIn was is (answer.Granted token) = IsGrantIn was is token
IsShownIn was is answer.Released = HasGrown (with_survey was 1 (survey_now was)) is
IsShownIn was is _ = Unit {0}

abbrev pub AreShownIn : Standing → Standing → List (ℕ × Answer) → Type 0
AreShownIn was is answers = AllByRecursion (λ (a : ℕ × Answer). IsShownIn was is a.1) answers

quiet_in : (was is : Standing) (a : Answer) → is_quiet a ≡ true → IsShownIn was is a
quiet_in was is (answer.Granted token) q = absurd (false≢true q)
quiet_in was is (answer.Waiting before) q = tt
quiet_in was is answer.Busy q = tt
quiet_in was is answer.Released q = absurd (false≢true q)
quiet_in was is answer.Cancelled q = tt
quiet_in was is (answer.Corrupted old) q = tt
quiet_in was is (answer.Stats s) q = tt
quiet_in was is (answer.Refused why) q = tt

all_quiet : (was is : Standing) (answers : List (ℕ × Answer)) → AreQuiet answers → AreShownIn was is answers
all_quiet was is [] q = tt
all_quiet was is (a ∷ answers) q = (quiet_in was is a.1 q.0, all_quiet was is answers q.1)

-- a grant's event comes next
one_event : (was is : Standing) (e : Event) (es : List Event) (token : ℕ) → is.history ≡ was.history ++ es → shifted was.base es ≡ e ∷ [] → e.seat ≡ 0 → number_of e.reply ≡ Some token → IsGrantIn was is token
one_event was is e [] token h s seat number = let n : length (shifted was.base []) ≡ 1 = ap (λ (x : List Event). length x) s in absurd (omega (arith, n))
one_event was is e (x ∷ []) token h s seat number =
    let same : shifted_event was.base x ≡ e = ap (λ (l : List Event). get_or l 0 e) s in record {
      pass = x;
      next = h;
      seat = ap (λ (y : Event). y.seat) same ∙ seat;
      number = ap (λ (y : Event). number_of y.reply) same ∙ number;
    }
one_event was is e (x ∷ y ∷ es) token h s seat number = let n : suc (suc (length (shifted was.base es))) ≡ 1 = ap (λ (l : List Event). length l) s in absurd (omega (arith, n))

granted_in : (was is : Standing) (a : State ℕ) (order : ℕ) (es : List Event) → IsRing a.ring → is.history ≡ was.history ++ es → shifted was.base es ≡ called a 0 (first_pass a order) ∷ [] → IsGrantIn was is (a.grants + 1)
granted_in was is a order es g h s = one_event was is (called a 0 (first_pass a order)) es (a.grants + 1) h s refl (grant_number a order g)

advanced_in : (was is : Standing) (a : State ℕ) (line : List Waiter) (es : List Event) → IsRing a.ring → is.history ≡ was.history ++ es → shifted was.base es ≡ events_of (advanced a line).marks → AreShownIn was is (advanced a line).answers
advanced_in was is a [] es g h s = tt
advanced_in was is a (w ∷ line) es g h s = (granted_in was is a w.label es g h s, tt)

pub turn_in : (was is : Standing) (a : State ℕ) (c : ℕ) (t : Turn) (es : List Event) → Tells a c t → IsRing a.ring → is.history ≡ was.history ++ es → shifted was.base es ≡ events_of t.marks →
    ((seat : ℕ) (more : List Mark) → t.marks ≡ Survey seat ∷ more → HasGrown (with_survey was seat (survey_now was)) is) → AreShownIn was is t.answers
turn_in was is a c t es (Quiet q) g h s ends = all_quiet was is t.answers q
turn_in was is a c t es (Grants line w e) g h s ends =
    subst (λ (x : Turn). AreShownIn was is x.answers) (sym e) (granted_in was is a w.label es g h (s ∙ ap (λ (x : Turn). events_of x.marks) e), tt)
turn_in was is a c t es (Releases line e) g h s ends =
    subst (λ (x : Turn). AreShownIn was is x.answers) (sym e) (
      ends 1 (advanced a line).marks (ap (λ (x : Turn). x.marks) e),
      advanced_in was is a line es g h (s ∙ ap (λ (x : Turn). events_of x.marks) e),
    )
turn_in was is a c t es (Leaves line e) g h s ends =
    subst (λ (x : Turn). AreShownIn was is x.answers) (sym e) (advanced_in was is a line es g h (s ∙ ap (λ (x : Turn). events_of x.marks) e))

-- ---- among all rings

-- the answers of a text, each of which is in the rings
pub record AreToldIn (names : Names) (was is : List Standing) (said : List ℕ) : Type 0 where
  pub tellings : List Telling
  pub text : IsText names said tellings
  pub each : AllByRecursion (λ (t : Telling). IsToldIn was is t.lock t.said) tellings

abbrev pub telling_of : ℕ → ℕ × Answer → Telling
telling_of lock a = record { client = a.0; lock = lock; said = a.1 }

abbrev pub tellings_of : ℕ → List (ℕ × Answer) → List Telling
tellings_of lock answers = map (telling_of lock) answers

pub lines_are : (names : Names) (lock : ℕ) (answers : List (ℕ × Answer)) → lines_about names lock answers ≡ text_of names (tellings_of lock answers)
lines_are names lock [] = refl
lines_are names lock ((c, a) ∷ answers) = ap (λ (x : List ℕ). answer_line c (name_of names lock) a ++ x) (lines_are names lock answers)

one_in : (was is : List Standing) (old new : Standing) (lock : ℕ) (a : Answer) → slice_get was lock ≡ Some old → slice_get is lock ≡ Some new → IsShownIn old new a → IsToldIn was is lock a
one_in was is old new lock (answer.Granted token) e f s = record { old = old; new = new; there = e; here = f; grant = s }
one_in was is old new lock (answer.Waiting before) e f s = tt
one_in was is old new lock answer.Busy e f s = tt
one_in was is old new lock answer.Released e f s = record { old = old; new = new; there = e; here = f; release = s }
one_in was is old new lock answer.Cancelled e f s = tt
one_in was is old new lock (answer.Corrupted was_) e f s = tt
one_in was is old new lock (answer.Stats s_) e f s = tt
one_in was is old new lock (answer.Refused why) e f s = tt

pub all_in : (was is : List Standing) (old new : Standing) (lock : ℕ) (answers : List (ℕ × Answer)) → slice_get was lock ≡ Some old → slice_get is lock ≡ Some new → AreShownIn old new answers → AllByRecursion (λ (t : Telling). IsToldIn was is t.lock t.said) (tellings_of lock answers)
all_in was is old new lock [] e f s = tt
all_in was is old new lock (a ∷ answers) e f s = (one_in was is old new lock a.1 e f s.0, all_in was is old new lock answers e f s.1)

quiet_told : (was is : List Standing) (lock : ℕ) (a : Answer) → is_quiet a ≡ true → IsToldIn was is lock a
quiet_told was is lock (answer.Granted token) q = absurd (false≢true q)
quiet_told was is lock (answer.Waiting before) q = tt
quiet_told was is lock answer.Busy q = tt
quiet_told was is lock answer.Released q = absurd (false≢true q)
quiet_told was is lock answer.Cancelled q = tt
quiet_told was is lock (answer.Corrupted old) q = tt
quiet_told was is lock (answer.Stats s) q = tt
quiet_told was is lock (answer.Refused why) q = tt

-- an answer that reports no hold, whatever the rings
pub told_quiet : (names : Names) (was is : List Standing) (lock c : ℕ) (a : Answer) (answers : List (ℕ × Answer)) → is_quiet a ≡ true → answers ≡ (c, a) ∷ [] → AreToldIn names was is (lines_about names lock answers)
told_quiet names was is lock c a answers q e = record {
  tellings = tellings_of lock ((c, a) ∷ []);
  text = inl (ap (λ (x : List (ℕ × Answer)). lines_about names lock x) e ∙ lines_are names lock ((c, a) ∷ []));
  each = (quiet_told was is lock a q, tt);
}

pub told_one : (names : Names) (was is : List Standing) (old new : Standing) (lock : ℕ) (answers : List (ℕ × Answer)) → slice_get was lock ≡ Some old → slice_get is lock ≡ Some new → AreShownIn old new answers → AreToldIn names was is (lines_about names lock answers)
told_one names was is old new lock answers e f s = record { tellings = tellings_of lock answers; text = inl (lines_are names lock answers); each = all_in was is old new lock answers e f s }

pub told_denied : (names : Names) (was is : List Standing) (client : ℕ) (why : Denial) (said : List ℕ) → said ≡ denial_line client why → AreToldIn names was is said
told_denied names was is client why said e = record { tellings = []; text = inr (refl, inl (client, why, e)); each = tt }

pub told_unknown : (names : Names) (was is : List Standing) (client : ℕ) (name said : List ℕ) → lock_named names name ≡ None → said ≡ answer_line client name (answer.Refused refusal.Lock) → AreToldIn names was is said
told_unknown names was is client name said none e = record { tellings = []; text = inr (refl, inr (client, name, none, e)); each = tt }

pub told_nobody : (names : Names) (was is : List Standing) (said : List ℕ) → said ≡ [] → AreToldIn names was is said
told_nobody names was is said e = record { tellings = []; text = inl e; each = tt }
