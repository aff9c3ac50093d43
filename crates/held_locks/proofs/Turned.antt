-- The turns of one lock, of what was done to its ring and its queue.
use Rattle.std.proofs.Common.{◌≡◌, ℕ, suc, ◌+◌, ◌≤◌, Bool, true, false, cond, not, List, [], ◌∷◌, ◌++◌, map, length, length-append, arith, refl, sym, ◌∙◌, ap, subst, Option, Some, None, IsSome, MatchOption}
use Rattle.std.specs.Prelude.{slice_index, ◌==◌, if◌then◌else◌}
use Rattle.std.proofs.lemmas.Bool.{false≢true, or_parts}
use Rattle.ring_model.specs.History.{State, next, after}
use Rattle.ring_model.specs.Resources.{till}
use Rattle.ring_model.specs.declared.events.Event.{Event}
use Rattle.ring_model.specs.declared.events.Survey.{Survey as SurveyOf}
use Rattle.endless_ring.specs.Endless.{EndlessView, IsSameEndless, local_survey}
use Rattle.held_locks.specs.declared.answers.Waiter.{Waiter}
use Rattle.held_locks.specs.declared.answers.Holder.{Holder}
use Rattle.held_locks.specs.declared.answers.Answer.{Answer}
use Rattle.held_locks.specs.declared.answers.Answer.TheVariants as answer
use Rattle.held_locks.specs.declared.answers.Answers.{Answers}
use Rattle.held_locks.specs.declared.answers.HoldEnd.{HoldEnd}
use Rattle.held_locks.specs.declared.answers.Refusal.TheVariants as refusal
use Rattle.held_locks.specs.Queues.{Lock, stands, without, is_held_by}
use Rattle.held_locks.specs.Locks.{Leave, Cancel, turn, Call, called, first_pass, fault, told, granted, joined, ended, dropped, faulted}
use Rattle.held_locks.specs.Kept.{LockView, state_of, lock_of, IsKeptRing, IsKeptLock, AreMade, own_answer, answers_of}
use Rattle.held_locks.specs.Parts.{IsMade, IsTurned, IsTurnedIn, IsEntryOf, Unchanged, Begun, Passed, Dropped}
use Rattle.held_locks.proofs.Rings.{events_of_calls}
use Rattle.held_locks.proofs.Calls.{made_state, made_of_same, same_state, same_itself}

lock_is : (a b : State ℕ) (x y : List Waiter) (h k : Option Holder) → a ≡ b → x ≡ y → h ≡ k → ◌≡◌ {A = Lock} (record { ring = a; queue = x; holder = h }) (record { ring = b; queue = y; holder = k })
lock_is a b x y h k e f g = ap (λ (z : State ℕ). record { ring = z; queue = x; holder = h }) e ∙ ap (λ (z : List Waiter). record { ring = b; queue = z; holder = h }) f ∙ ap (λ (z : Option Holder). record { ring = b; queue = y; holder = z }) g

pub fault_turned : (v : LockView) (ring : EndlessView) (c i value old : ℕ) (r : Answers) → IsKeptLock (record { ring = ring; queue = v.queue; holder = v.holder }) → AreMade v.ring (map Call (fault (state_of v.ring) i value)) ring →
    r ≡ record { own = Some (answer.Corrupted old); ended = None; granted = None } → old ≡ slice_index (state_of v.ring).ring.values i →
    IsTurned v (record { ring = ring; queue = v.queue; holder = v.holder }) c (faulted (lock_of v) c i value) r
fault_turned v ring c i value old r k m e f = record {
  lock = lock_is (state_of ring) (after till (state_of v.ring) (fault (state_of v.ring) i value)) v.queue v.queue v.holder v.holder
      (made_state v.ring ring (map Call (fault (state_of v.ring) i value)) m ∙ ap (λ (x : List Event). after till (state_of v.ring) x) (events_of_calls (fault (state_of v.ring) i value))) refl refl;
  marks = m;
  answers = ap (λ (x : Answers). answers_of c x) e ∙ ap (λ (x : ℕ). (c, answer.Corrupted x) ∷ []) f;
  ended = ap (λ (x : Answers). x.ended) e;
  kept = k;
}

wait_is : (v : LockView) (ring : EndlessView) (queue : List Waiter) (w : Waiter) (before : ℕ) (r : Answers) (h : Option Holder) → IsKeptLock (record { ring = ring; queue = queue; holder = v.holder }) → IsSameEndless v.ring ring → IsSome h →
    queue ≡ v.queue ++ w ∷ [] → before ≡ length v.queue →
    r ≡ record { own = Some (answer.Waiting before); ended = None; granted = None } → IsTurned v (record { ring = ring; queue = queue; holder = v.holder }) w.client (joined (lock_of v) w h) r
wait_is v ring queue w before r None k m s e f g = absurd (false≢true s)
wait_is v ring queue w before r (Some h) k m s e f g = record {
  lock = lock_is (state_of ring) (state_of v.ring) queue (v.queue ++ w ∷ []) v.holder v.holder (same_state v.ring ring m) e refl;
  marks = m;
  answers = ap (λ (x : Answers). answers_of w.client x) g ∙ ap (λ (x : ℕ). (w.client, answer.Waiting x) ∷ []) f;
  ended = ap (λ (x : Answers). x.ended) g;
  kept = k;
}

pub wait_turned : (number : ℕ) (v : LockView) (ring : EndlessView) (queue : List Waiter) (w : Waiter) (before : ℕ) (r : Answers) (es fs : List (ℕ × ℕ)) → IsKeptRing ring → length v.queue + 1 ≤ ring.ring.book.room → IsSameEndless v.ring ring →
    IsSome v.holder → queue ≡ v.queue ++ w ∷ [] → before ≡ length v.queue →
    r ≡ record { own = Some (answer.Waiting before); ended = None; granted = None } → IsEntryOf w.client (Some number) es fs →
    IsTurnedIn number v (record { ring = ring; queue = queue; holder = v.holder }) es fs w.client (joined (lock_of v) w v.holder) r
wait_turned number v ring queue w before r es fs k room m s e f g i =
    let n : length queue ≡ length v.queue + 1 = ap (λ (x : List Waiter). length x) e ∙ length-append v.queue (w ∷ []) in
    record { turned = wait_is v ring queue w before r v.holder (record { ring = k; room = omega arith }) m s e f g; waits = Begun w e i }

pub taken : (items rest : List Waiter) (w : Waiter) (others : List Waiter) (o : Option Waiter) → items ≡ w ∷ others → MatchOption o ((items ≡ []) × (rest ≡ [])) (λ (x : Waiter). items ≡ x ∷ rest) → rest ≡ others
taken items rest w others None e m = let a : items ≡ [] = m.0 in absurd (not_nil w others (sym e ∙ a))
  where
    not_nil : (w : Waiter) (others : List Waiter) → ◌≡◌ {A = List Waiter} (w ∷ others) [] → ⊥
    not_nil w others q = cc
taken items rest w others (Some x) e m = same x w rest others (sym m ∙ e)
  where
    same : (x w : Waiter) (rest others : List Waiter) → ◌≡◌ {A = List Waiter} (x ∷ rest) (w ∷ others) → rest ≡ others
    same x w rest others q = cc

passed_is : (v : LockView) (ring : EndlessView) (queue : List Waiter) (w : Waiter) (others : List Waiter) (c token : ℕ) (own : Option Answer) (end : HoldEnd) → IsKeptLock (record { ring = ring; queue = queue; holder = Some (record { client = w.client; token = token }) }) →
    v.queue ≡ w ∷ others → queue ≡ others → end.survey ≡ local_survey v.ring.ring →
    IsMade v.ring ring 0 (first_pass (state_of v.ring) w.label) → token ≡ (state_of v.ring).grants + 1 →
    IsTurned v (record { ring = ring; queue = queue; holder = Some (record { client = w.client; token = token }) }) c (ended (state_of v.ring) (w ∷ others) end.seat (own_answer c own))
    (record { own = own; ended = Some end; granted = Some (record { client = w.client; token = token }) })
passed_is v ring queue w others c token own end k e f s m t = record {
  lock = lock_is (state_of ring) (next till (state_of v.ring) (first_pass (state_of v.ring) w.label)) queue others (Some (record { client = w.client; token = token })) (Some (record { client = w.client; token = (state_of v.ring).grants + 1 }))
      (made_state v.ring ring (Call (called (state_of v.ring) 0 (first_pass (state_of v.ring) w.label)) ∷ []) m) f (ap (λ (x : ℕ). Some (record { client = w.client; token = x })) t);
  marks = m;
  answers = ap (λ (x : ℕ). own_answer c own ++ (w.client, answer.Granted x) ∷ []) t;
  ended = ap (λ (x : SurveyOf). Some (record { seat = end.seat; survey = x })) s;
  kept = k;
}

pub passed_turned : (number : ℕ) (v : LockView) (ring : EndlessView) (queue : List Waiter) (w : Waiter) (others : List Waiter) (c token : ℕ) (own : Option Answer) (end : HoldEnd) (es fs : List (ℕ × ℕ)) → IsKeptRing ring → length v.queue ≤ ring.ring.book.room + 1 →
    v.queue ≡ w ∷ others → queue ≡ others → end.survey ≡ local_survey v.ring.ring →
    IsMade v.ring ring 0 (first_pass (state_of v.ring) w.label) → token ≡ (state_of v.ring).grants + 1 → IsEntryOf w.client None es fs →
    IsTurnedIn number v (record { ring = ring; queue = queue; holder = Some (record { client = w.client; token = token }) }) es fs c (ended (state_of v.ring) v.queue end.seat (own_answer c own))
    (record { own = own; ended = Some end; granted = Some (record { client = w.client; token = token }) })
passed_turned number v ring queue w others c token own end es fs k room e f s m t i =
    let n : length v.queue ≡ suc (length others) = ap (λ (x : List Waiter). length x) e in
    let o : length queue ≡ length others = ap (λ (x : List Waiter). length x) f in record {
      turned = subst (λ (x : List Waiter). IsTurned v (record { ring = ring; queue = queue; holder = Some (record { client = w.client; token = token }) }) c (ended (state_of v.ring) x end.seat (own_answer c own))
          (record { own = own; ended = Some end; granted = Some (record { client = w.client; token = token }) })) (sym e) (passed_is v ring queue w others c token own end (record { ring = k; room = omega arith }) e f s m t);
      waits = Passed w (e ∙ ap (λ (x : List Waiter). w ∷ x) (sym f)) i;
    }

-- ---- turns in which nobody comes into the queue or goes out of it

-- a grant, once there is room for it
pub granted_is : (v : LockView) (now ring : EndlessView) (w : Waiter) (token : ℕ) (r : Answers) → IsKeptLock (record { ring = ring; queue = v.queue; holder = Some (record { client = w.client; token = token }) }) → IsSameEndless v.ring now → IsMade now ring 0 (first_pass (state_of now) w.label) → token ≡ (state_of now).grants + 1 →
    r ≡ record { own = Some (answer.Granted token); ended = None; granted = None } →
    IsTurned v (record { ring = ring; queue = v.queue; holder = Some (record { client = w.client; token = token }) }) w.client (granted (state_of v.ring) v.queue w) r
granted_is v now ring w token r k same made t e =
    let state : state_of now ≡ state_of v.ring = same_state v.ring now same in
    let marks = Call (called (state_of v.ring) 0 (first_pass (state_of v.ring) w.label)) ∷ [] in
    let all : AreMade v.ring marks ring = made_of_same v.ring now ring marks same (subst (λ (a : State ℕ). AreMade now (Call (called a 0 (first_pass a w.label)) ∷ []) ring) state made) in
    let number : token ≡ (state_of v.ring).grants + 1 = t ∙ ap (λ (a : State ℕ). a.grants + 1) state in
    record {
      lock = lock_is (state_of ring) (next till (state_of v.ring) (first_pass (state_of v.ring) w.label)) v.queue v.queue (Some (record { client = w.client; token = token })) (Some (record { client = w.client; token = (state_of v.ring).grants + 1 }))
          (made_state v.ring ring marks all) refl (ap (λ (x : ℕ). Some (record { client = w.client; token = x })) number);
      marks = all;
      answers = ap (λ (x : Answers). answers_of w.client x) e ∙ ap (λ (x : ℕ). (w.client, answer.Granted x) ∷ []) number;
      ended = ap (λ (x : Answers). x.ended) e;
      kept = k;
    }

-- a queue in which the client is not
pub without_absent : (c : ℕ) (queue : List Waiter) → stands c queue ≡ false → without c queue ≡ queue
without_absent c [] e = refl
without_absent c (w ∷ queue) e =
    let p = or_parts (w.client == c) (stands c queue) e in
    ap (λ (b : Bool). cond (not b) (w ∷ without c queue) (without c queue)) p.0 ∙ ap (λ (x : List Waiter). w ∷ x) (without_absent c queue p.1)

without_fewer : (c : ℕ) (queue : List Waiter) → length (without c queue) ≤ length queue
without_fewer c [] = omega arith
without_fewer c (w ∷ queue) = go (not (w.client == c)) (without_fewer c queue)
  where
    go : (b : Bool) → length (without c queue) ≤ length queue → length (cond b (w ∷ without c queue) (without c queue)) ≤ suc (length queue)
    go true l = omega arith
    go false l = omega arith

dropped_kept : (v w : LockView) (c : ℕ) → IsKeptLock v → w.ring ≡ v.ring → w.queue ≡ without c v.queue → IsKeptLock w
dropped_kept v w c k a e =
    let few : length (without c v.queue) ≤ length v.queue = without_fewer c v.queue in
    let n : length w.queue ≡ length (without c v.queue) = ap (λ (x : List Waiter). length x) e in
    let room : length v.queue ≤ v.ring.ring.book.room = k.room in
    let m : w.ring.ring.book.room ≡ v.ring.ring.book.room = ap (λ (x : EndlessView). x.ring.book.room) a in
    record { ring = subst (λ (x : EndlessView). IsKeptRing x) (sym a) k.ring; room = omega arith }

pub dropped_in : (number : ℕ) (v w : LockView) (es fs : List (ℕ × ℕ)) (c : ℕ) (told : List (ℕ × Answer)) (r : Answers) → IsKeptLock v → stands c v.queue ≡ true → w.ring ≡ v.ring → w.holder ≡ v.holder → w.queue ≡ without c v.queue → IsEntryOf c None es fs →
    answers_of c r ≡ told → r.ended ≡ None → IsTurnedIn number v w es fs c (dropped (lock_of v) c told) r
dropped_in number v w es fs c told r k s a b e f g h = record {
  turned = record {
    lock = lock_is (state_of w.ring) (state_of v.ring) w.queue (without c v.queue) w.holder v.holder (ap (λ (x : EndlessView). state_of x) a) e b;
    marks = subst (λ (x : EndlessView). AreMade v.ring [] x) (sym a) (same_itself v.ring);
    answers = g;
    ended = h;
    kept = dropped_kept v w c k a e;
  };
  waits = Dropped c s e f;
}

pub not_there : (number : ℕ) (v : LockView) (es : List (ℕ × ℕ)) (c : ℕ) (r : Answers) → IsKeptLock v → stands c v.queue ≡ false → r ≡ record { own = None; ended = None; granted = None } → IsTurnedIn number v v es es c (dropped (lock_of v) c []) r
not_there number v es c r k s e = record {
  turned = record { lock = ap (λ (x : List Waiter). record { ring = state_of v.ring; queue = x; holder = v.holder }) (sym (without_absent c v.queue s)); marks = same_itself v.ring; answers = ap (λ (x : Answers). answers_of c x) e; ended = ap (λ (x : Answers). x.ended) e; kept = k };
  waits = Unchanged refl refl;
}

-- ---- the turns of a leave and of a cancel

pub leave_held : (v : LockView) (c : ℕ) → is_held_by c v.holder ≡ true → stands c v.queue ≡ false → ended (state_of v.ring) v.queue 2 [] ≡ turn [] (lock_of v) c Leave
leave_held v c h s =
    ap (λ (x : List Waiter). ended (state_of v.ring) x 2 []) (sym (without_absent c v.queue s)) ∙ sym (ap (λ (b : Bool). if b then ended (state_of v.ring) (without c v.queue) 2 [] else dropped (lock_of v) c []) h)

pub leave_out : (v : LockView) (c : ℕ) → is_held_by c v.holder ≡ false → dropped (lock_of v) c [] ≡ turn [] (lock_of v) c Leave
leave_out v c h = sym (ap (λ (b : Bool). if b then ended (state_of v.ring) (without c v.queue) 2 [] else dropped (lock_of v) c []) h)

pub cancel_out : (v : LockView) (c : ℕ) → stands c v.queue ≡ true → dropped (lock_of v) c ((c, answer.Cancelled) ∷ []) ≡ turn [] (lock_of v) c Cancel
cancel_out v c s = sym (ap (λ (b : Bool). if b then dropped (lock_of v) c ((c, answer.Cancelled) ∷ []) else told (lock_of v) c (answer.Refused refusal.Waiter)) s)
