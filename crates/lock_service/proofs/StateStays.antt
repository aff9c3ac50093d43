-- The state of locks can be written as lines, whatever is asked.
use Rattle.std.proofs.Common.{◌≡◌, ℕ, zero, suc, ◌<◌, ◌^◌, Bool, true, false, cond, not, List, [], ◌∷◌, length, Option, Some, None, inl, inr, refl, ap, sym, subst, ◌∙◌, arith}
use Rattle.std.specs.Prelude.{slice_get, ◌==◌}
use Rattle.std.specs.List.{AllByRecursion}
use Rattle.std.proofs.lemmas.List.{length-map}
use Rattle.text_lines.specs.LongNumbers.{in_32_bits}
use Rattle.ring_model.specs.History.{State}
use Rattle.held_locks.specs.declared.answers.Answer.{Answer}
use Rattle.held_locks.specs.declared.answers.Answers.{Answers}
use Rattle.held_locks.specs.declared.answers.Holder.{Holder}
use Rattle.held_locks.specs.declared.answers.Waiter.{Waiter}
use Rattle.held_locks.specs.Queues.{Lock, without}
use Rattle.held_locks.specs.Locks.{Ask, Acquire, Try, Release, Cancel, Leave, Corrupt, Stats, Input, Asked, Turn, advanced, step, step_at, turn}
use Rattle.held_locks.specs.Promises.{AreRight, locks_after, leaves}
use Rattle.held_locks.specs.Kept.{LockView, lock_of, locks_of, IsAnswer}
use Rattle.held_locks.proofs.Moves.{waiter, IsEnd, Released, Left, Move, Stays, Waits, Gets, Ends, Drops, Faults, move_of}
use Rattle.held_locks.proofs.Right.{right_step, right_stays}
use Rattle.held_locks.proofs.Standing.{get_set}
use Rattle.lock_protocol.specs.Names.{Names, lock_named}
use Rattle.lock_protocol.specs.Views.{Input as Read}
use Rattle.lock_protocol.specs.Views as input
use Rattle.lock_protocol.specs.Asks as asks
use Rattle.lock_protocol.specs.Asks.{heard}
use Rattle.lock_protocol.specs.Inputs.{IsReadAs}
use Rattle.lock_journal.specs.declared.terms.Terms.{Terms}
use Rattle.held_locks.specs.Asked.{IsAnswerTo}
use Rattle.lock_journal.specs.Asking.{one_ask, is_off}
use Rattle.lock_journal.specs.Counting.{SegmentView}
use Rattle.lock_journal.specs.Answering.{IsToldOf, IsToldOfNamed, IsTold, IsAnsweredIf, IsInputAnswered}
use Rattle.lock_service.specs.WaitersBack.{IsOfBits, HaveState, HavingStateStays}
use Rattle.lock_journal.proofs.Following.{some_is, also_there, lock_there, as_many, step_many}
use Rattle.lock_journal.proofs.KeysBack.{all_push}
use Rattle.lock_journal.proofs.LockLines.{left_many, order_small}
use Rattle.lock_service.proofs.SameNames.{names_stay}

-- ---- one lock

abbrev AreOfBits : List Waiter → Type 0
AreOfBits line = AllByRecursion IsOfBits line

kept : (keep : Bool) (w : Waiter) (line : List Waiter) → IsOfBits w → AreOfBits line → AreOfBits (cond keep (w ∷ line) line)
kept true w line l s = (l, s)
kept false w line l s = s

bits_without : (c : ℕ) (line : List Waiter) → AreOfBits line → AreOfBits (without c line)
bits_without c [] s = tt
bits_without c (w ∷ line) s = kept (not (w.client == c)) w (without c line) s.0 (bits_without c line s.1)

bits_advanced : (a : State ℕ) (line : List Waiter) → AreOfBits line → AreOfBits (advanced a line).lock.queue
bits_advanced a [] s = tt
bits_advanced a (w ∷ line) s = s.1

bits_ended : (l : Lock) (c : ℕ) (h : Holder) (ask : Ask) (seat : ℕ) (line : List Waiter) (answers : List (ℕ × Answer)) → IsEnd l c h ask seat line answers → AreOfBits l.queue → AreOfBits line
bits_ended l c h ask seat line answers (Released a b e f) s = subst (λ (u : List Waiter). AreOfBits u) (sym e) s
bits_ended l c h ask seat line answers (Left a b e f) s = subst (λ (u : List Waiter). AreOfBits u) (sym e) (bits_without c l.queue s)

-- an ask brings a client of 64 bits, if any
abbrev Brings : ℕ → Ask → Type 0
Brings c ask = (order : ℕ) → ask ≡ Acquire order → IsOfBits (waiter c order)

bits_moved : (ls : List Lock) (l : Lock) (c : ℕ) (ask : Ask) (t : Turn) → Move ls l c ask t → Brings c ask → AreOfBits l.queue → AreOfBits t.lock.queue
bits_moved ls l c ask t (Stays a q leave e) b s = subst (λ (u : Turn). AreOfBits u.lock.queue) (sym e) s
bits_moved ls l c ask t (Waits order h a held other free back e) b s = subst (λ (u : Turn). AreOfBits u.lock.queue) (sym e) (all_push IsOfBits l.queue (waiter c order) s (b order a))
bits_moved ls l c ask t (Gets order asking a e) b s = subst (λ (u : Turn). AreOfBits u.lock.queue) (sym e) s
bits_moved ls l c ask t (Ends h seat line answers held own is e) b s = subst (λ (u : Turn). AreOfBits u.lock.queue) (sym e) (bits_advanced l.ring line (bits_ended l c h ask seat line answers is s))
bits_moved ls l c ask t (Drops answers is e) b s = subst (λ (u : Turn). AreOfBits u.lock.queue) (sym e) (bits_without c l.queue s)
bits_moved ls l c ask t (Faults i v a lt lk e) b s = subst (λ (u : Turn). AreOfBits u.lock.queue) (sym e) s

-- ---- all locks

abbrev AllOfBits : List Lock → Type 0
AllOfBits ls = (i : ℕ) (l : Lock) → slice_get ls i ≡ Some l → AreOfBits l.queue

bits_at : (ls : List Lock) (c i : ℕ) (ask : Ask) → Brings c ask → AllOfBits ls → (o : Option Lock) → slice_get ls i ≡ o → AllOfBits (step_at ls c i ask o).locks
bits_at ls c i ask b all None e = all
bits_at ls c i ask b all (Some l) e = λ j m f. elim (get_set ls i j (turn ls l c ask).lock l m e f) [
  | inl q ↦ subst (λ (z : Lock). AreOfBits z.queue) (sym q.1) (bits_moved ls l c ask (turn ls l c ask) (move_of ls l c ask) b (all i l e))
  | inr q ↦ all j m q.1
]

bits_step : (ls : List Lock) (c i : ℕ) (ask : Ask) → Brings c ask → AllOfBits ls → AllOfBits (step ls (Asked c i ask)).locks
bits_step ls c i ask b all = bits_at ls c i ask b all (slice_get ls i) refl

abbrev IsLeave : ℕ → Input → Type 0
IsLeave c i = (j : ℕ) × (i ≡ Asked c j Leave)

no_acquire : (order : ℕ) → Leave ≡ Acquire order → ⊥
no_acquire order e = cc

bits_after : (c : ℕ) (is : List Input) (ls : List Lock) → AllByRecursion (IsLeave c) is → AllOfBits ls → AllOfBits (locks_after ls is)
bits_after c [] ls leave all = all
bits_after c (i ∷ is) ls leave all =
    bits_after c is (step ls i).locks leave.1
    (subst (λ (x : Input). AllOfBits (step ls x).locks) (sym leave.0.1) (bits_step ls c leave.0.0 Leave (λ order e. absurd (no_acquire order e)) all))

are_leaves : (c n : ℕ) → AllByRecursion (IsLeave c) (leaves c n)
are_leaves c zero = tt
are_leaves c (suc n) = all_push (IsLeave c) (leaves c n) (Asked c n Leave) (are_leaves c n) (n, refl)

-- ---- lists

all_at : {X : Type 0} (P : X → Type 0) (xs : List X) (i : ℕ) (x : X) → AllByRecursion P xs → slice_get xs i ≡ Some x → P x
all_at P [] i x all e = absurd cc
all_at P (y ∷ ys) zero x all e = subst P (some_is y x e) all.0
all_at P (y ∷ ys) (suc i) x all e = all_at P ys i x all.1 e

all_from : {X : Type 0} (P : X → Type 0) (xs : List X) → ((i : ℕ) (x : X) → slice_get xs i ≡ Some x → P x) → AllByRecursion P xs
all_from P [] each = tt
all_from P (x ∷ xs) each = (each 0 x refl, all_from P xs (λ i y e. each (suc i) y e))

all_in : (vs : List LockView) → AllByRecursion (λ (v : LockView). AreOfBits v.queue) vs → AllOfBits (locks_of vs)
all_in vs all i l at =
    let v = also_there (locks_of vs) vs i l (length-map vs lock_of) at in
    let is : lock_of v.0 ≡ l = some_is (lock_of v.0) l (sym (lock_there vs i v.0 v.1) ∙ at) in
    subst (λ (z : Lock). AreOfBits z.queue) is (all_at (λ (u : LockView). AreOfBits u.queue) vs i v.0 all v.1)

-- ---- a line

stays_by : (names : Names) (old new : List LockView) (ls : List Lock) → HaveState names old → locks_of new ≡ ls → AreRight ls → length ls ≡ length (locks_of old) → AllOfBits ls → HaveState names new
stays_by names old new ls state e fair n all = record {
  right = subst (λ (x : List Lock). AreRight x) (sym e) fair;
  named = state.named;
  each = state.each ∙ sym (as_many old new ls e n);
  few = (let many = as_many old new ls e n in let few = state.few in omega (arith, many, few));
  bits = all_from (λ (v : LockView). AreOfBits v.queue) new (λ i v at. all i (lock_of v) (ap (λ (x : List Lock). slice_get x i) (sym e) ∙ lock_there new i v at));
}

answer_stays : (names : Names) (old new : List LockView) (c i : ℕ) (ask : Ask) (r : Answers) → Brings c ask → HaveState names old → IsAnswer old new c i ask r → HaveState names new
answer_stays names old new c i ask r b state (inl d) =
    stays_by names old new (step (locks_of old) (Asked c i ask)).locks state d.locks (right_step (locks_of old) (Asked c i ask) state.right) (step_many (locks_of old) c i ask)
    (bits_step (locks_of old) c i ask b (all_in old state.bits))
answer_stays names old new c i ask r b state (inr w) = subst (λ (x : List LockView). HaveState names x) (sym w.same) state

as_answer : (old new : List LockView) (c i : ℕ) (ask : Ask) (r : Answers) → IsAnswerTo old new c i ask r → IsAnswer old new c i ask r
as_answer old new c i (Acquire order) r a = a
as_answer old new c i (Try order) r a = a
as_answer old new c i (Corrupt machine value) r a = a
as_answer old new c i (Release token) r a = inl a
as_answer old new c i Cancel r a = inl a
as_answer old new c i Leave r a = inl a
as_answer old new c i Stats r a = inl a

leave_stays : (names : Names) (old new : List LockView) (c : ℕ) → HaveState names old → locks_of new ≡ locks_after (locks_of old) (leaves c (length old)) → HaveState names new
leave_stays names old new c state e =
    stays_by names old new (locks_after (locks_of old) (leaves c (length old))) state e (right_stays (locks_of old) (leaves c (length old)) state.right) (left_many (locks_of old) c (length old))
    (bits_after c (leaves c (length old)) (locks_of old) (are_leaves c (length old)) (all_in old state.bits))

asked_of : (order n : ℕ) → ◌≡◌ {A = Ask} (Acquire order) (Acquire n) → order ≡ n
asked_of order n e = cc

module _ (old new : SegmentView) (said noted : List ℕ) (state : HaveState old.names old.locks) where
  told : (strict noting : Bool) (c i : ℕ) (ask : Ask) → Brings c ask → IsToldOf strict noting c i ask old said noted new → HaveState old.names new.locks
  told strict noting c i ask b t = answer_stays old.names old.locks new.locks c i ask t.answers b state (as_answer old.locks new.locks c i ask t.answers t.done)

  same : new ≡ old → HaveState old.names new.locks
  same e = subst (λ (x : SegmentView). HaveState old.names x.locks) (sym e) state

  named : (o : Option ℕ) (strict noting : Bool) (c : ℕ) (name : List ℕ) (ask : Ask) → Brings c ask → IsToldOfNamed o strict noting c name ask old said noted new → HaveState old.names new.locks
  named None strict noting c name ask b t = same t.leaves
  named (Some i) strict noting c name ask b t = told strict noting c i ask b t

  asked : (strict noting : Bool) (c : ℕ) (a : asks.Ask) → c < 2 ^ 64 → heard a ≡ Some a → IsTold strict noting c (one_ask a) old said noted new → HaveState old.names new.locks
  asked strict noting c (asks.acquire name order) lt h t =
      named (lock_named old.names name) strict noting c name (Acquire order) (λ n e. (lt, subst (λ (x : ℕ). x < 2 ^ 64) (asked_of order n e) (order_small (asks.acquire name) order (asks.acquire name order) h))) t
  asked strict noting c (asks.try name order) lt h t = named (lock_named old.names name) strict noting c name (Try order) (λ n e. absurd cc) t
  asked strict noting c (asks.release name token) lt h t = named (lock_named old.names name) strict noting c name (Release token) (λ n e. absurd cc) t
  asked strict noting c (asks.cancel name) lt h t = named (lock_named old.names name) strict noting c name Cancel (λ n e. absurd cc) t
  asked strict noting c asks.leave lt h t = leave_stays old.names old.locks new.locks c state t.done.locks
  asked strict noting c (asks.corrupt name machine value) lt h t = named (lock_named old.names name) strict noting c name (Corrupt (in_32_bits machine) (in_32_bits value)) (λ n e. absurd cc) t
  asked strict noting c (asks.stats name) lt h t = named (lock_named old.names name) strict noting c name Stats (λ n e. absurd cc) t

  asked_if : (off : Bool) (terms : Terms) (c : ℕ) (a : asks.Ask) → c < 2 ^ 64 → heard a ≡ Some a → IsAnsweredIf off terms c a old said noted new → HaveState old.names new.locks
  asked_if true terms c a lt h t = same t.leaves
  asked_if false terms c a lt h t = asked terms.strict terms.noting c a lt h t

  by_input : (terms : Terms) (line : List ℕ) (i : Read) → IsReadAs line i → IsInputAnswered terms i old said noted new → HaveState old.names new.locks
  by_input terms line (input.Asked c ask) r t = asked_if (is_off terms.faults ask) terms c ask r.0.bits r.2 t
  by_input terms line (input.Refused c why) r t = same t.leaves
  by_input terms line input.Nobody r t = same t.leaves

pub having_state_stays : HavingStateStays
having_state_stays terms old new line said noted state a =
    subst (λ (x : Names). HaveState x new.locks) (sym (names_stay terms old new line said noted a)) (by_input old new said noted state terms line a.0 a.1 a.2)
