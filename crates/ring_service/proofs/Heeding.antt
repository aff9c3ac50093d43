-- A turn that is refused since memory is short has changed nothing.
use Rattle.std.proofs.Common.{◌≡◌, ℕ, ◌+◌, Bool, true, false, not, ◌&&◌, ◌||◌, List, [], ◌∷◌, ◌++◌, length, Option, Some, None, refl, sym, ap, ◌∙◌, inl, inr, Result, Ok, Err}
use Rattle.std.specs.Prelude.{◌⊎◌, ◌==◌, nat_le, nat_lt, if◌then◌else◌, is_some, OnOk, OnErr, slice_get}
use Rattle.std.proofs.lemmas.Bool.{false≢true}
use Rattle.line_service.specs.declared.pending.Pending.{Pending}
use Rattle.line_service.specs.Stands.{IsAdded}
use Rattle.ring_model.specs.Ring.{is_privileged}
use Rattle.ring_model.specs.History.{reply}
use Rattle.ring_model.specs.Resources.{till}
use Rattle.ring_model.specs.Bases.{shifted_reply}
use Rattle.ring_model.specs.declared.events.Op.{Op}
use Rattle.ring_model.specs.declared.events.Op.TheVariants as op
use Rattle.ring_model.specs.declared.events.Reply.{Reply}
use Rattle.ring_model.specs.declared.events.Reply.TheVariants as reply_is
use Rattle.one_thread_ring.specs.Refusals.{Bounds, first_of, when, unprivileged, first_without, rise, seat_refusal, place_refusal, pass_refusal, corrupt_refusal, group_refusal}
use Rattle.ring_model.specs.Limits.{event_limit}
use Rattle.one_thread_ring.specs.declared.errors.CallError.{CallError}
use Rattle.one_thread_ring.specs.declared.errors.CallError.TheVariants as call
use Rattle.ring_service.specs.declared.answers.Answer.TheVariants as answer
use Rattle.ring_service.specs.declared.answers.Refusal.{Refusal}
use Rattle.ring_service.specs.declared.answers.Refusal.TheVariants as refusal
use Rattle.ring_service.specs.Commands.{Command, pass, try, group, corrupt, survey, glance, save, heard, ring_of}
use Rattle.ring_service.specs.Standings.{Standing, state_of}
use Rattle.ring_service.specs.Turns.{Turn, refused, refusal_of, unless, bounds_now, called, answer_of, passed, waits, grouped, turn_at, turn_among, turn_of, is_off, heard_turn, IsRightTurn, IsTurnOfLine}
use Rattle.ring_service.specs.Serving.{IsTurnOn, is_memory, IsMade}

-- ---- a right turn is not refused for it

abbrev is_short : Option CallError → Bool
is_short None = false
is_short (Some e) = is_memory (answer.Refused (refusal_of e))

unless_not : (why : Option CallError) (r : Standing) (t : Turn Standing) → is_short why ≡ false → is_memory t.answer ≡ false → is_memory (unless why r t).answer ≡ false
unless_not None r t e f = f
unless_not (Some why) r t e f = e

answer_not : (r : Reply) → is_memory (answer_of r) ≡ false
answer_not (reply_is.Granted number result) = refl
answer_not reply_is.NotPrivileged = refl
answer_not (reply_is.Corrupted old) = refl

called_not : (ring : ℕ) (r : Standing) (seat : ℕ) (o : Op) → is_memory (called ring r seat o).answer ≡ false
called_not ring r seat o = answer_not (shifted_reply r.base (reply till (state_of r) o))

seat_not : (b : Bounds) (seat : ℕ) → is_short (seat_refusal b seat) ≡ false
seat_not b seat = go (nat_le b.seats seat)
  where
    go : (x : Bool) → is_short (when x call.NoSeat) ≡ false
    go true = refl
    go false = refl

place_not : (b : Bounds) (seat machine : ℕ) → is_short (place_refusal b seat machine) ≡ false
place_not b seat machine = go (nat_le b.seats seat) (nat_le (length b.ring.values) machine)
  where
    go : (x y : Bool) → is_short (first_of (when x call.NoSeat ∷ when y call.NoMachine ∷ [])) ≡ false
    go true y = refl
    go false true = refl
    go false false = refl

pass_not : (b : Bounds) (seat machine : ℕ) → is_short (pass_refusal b seat machine) ≡ false
pass_not b seat machine = go (nat_le b.seats seat) (nat_le (length b.ring.values) machine) (b.events == event_limit)
  where
    go : (x y z : Bool) → is_short (first_of (when x call.NoSeat ∷ when y call.NoMachine ∷ when z call.HistoryFull ∷ [])) ≡ false
    go true y z = refl
    go false true z = refl
    go false false true = refl
    go false false false = refl

corrupt_not : (b : Bounds) (seat machine value : ℕ) → is_short (corrupt_refusal b seat machine value) ≡ false
corrupt_not b seat machine value = go (nat_le b.seats seat) (nat_le (length b.ring.values) machine) (nat_le b.ring.k value) (b.events == event_limit)
  where
    go : (x y v z : Bool) → is_short (first_of (when x call.NoSeat ∷ when y call.NoMachine ∷ when v call.NoValue ∷ when z call.HistoryFull ∷ [])) ≡ false
    go true y v z = refl
    go false true v z = refl
    go false false true z = refl
    go false false false true = refl
    go false false false false = refl

group_not : (b : Bounds) (seat : ℕ) (machines : List ℕ) → is_short (group_refusal b seat machines) ≡ false
group_not b seat machines =
    go (nat_le b.seats seat) (not (nat_lt 0 (length machines) && rise 0 (length b.ring.values) machines)) (length machines == length b.ring.values) (first_without b.ring.values machines) (nat_lt event_limit (b.events + length machines))
  where
    go : (x y w : Bool) (m : Option ℕ) (z : Bool) → is_short (first_of (when x call.NoSeat ∷ when y call.NotRising ∷ when w call.WholeRing ∷ unprivileged m ∷ when z call.HistoryFull ∷ [])) ≡ false
    go true y w m z = refl
    go false true w m z = refl
    go false false true m z = refl
    go false false false (Some m) z = refl
    go false false false None true = refl
    go false false false None false = refl

passed_not : (ring : ℕ) (r : Standing) (seat machine order : ℕ) → is_memory (passed ring r seat machine order).answer ≡ false
passed_not ring r seat machine order = unless_not (pass_refusal (bounds_now r) seat machine) r (called ring r seat (op.Pass machine order)) (pass_not (bounds_now r) seat machine) (called_not ring r seat (op.Pass machine order))

turn_not : (r : Standing) (command : Command) → is_memory (turn_at r command).answer ≡ false
turn_not r (pass ring seat machine order) = passed_not ring r seat machine order
turn_not r (try ring seat machine order) = go (is_privileged (state_of r).ring.values machine)
  where
    go : (x : Bool) → is_memory (if x then passed ring r seat machine order else unless (place_refusal (bounds_now r) seat machine) r (waits r)).answer ≡ false
    go true = passed_not ring r seat machine order
    go false = unless_not (place_refusal (bounds_now r) seat machine) r (waits r) (place_not (bounds_now r) seat machine) refl
turn_not r (corrupt ring seat machine value) = unless_not (corrupt_refusal (bounds_now r) seat machine value) r (called ring r seat (op.Corrupt machine value)) (corrupt_not (bounds_now r) seat machine value) (called_not ring r seat (op.Corrupt machine value))
turn_not r (group ring seat order machines) = unless_not (group_refusal (bounds_now r) seat machines) r (grouped ring r seat order machines) (group_not (bounds_now r) seat machines) refl
turn_not r (survey ring seat) = unless_not (seat_refusal (bounds_now r) seat) r _ (seat_not (bounds_now r) seat) refl
turn_not r (glance ring) = refl
turn_not r (save name) = refl

among_not : (rings : List Standing) (command : Command) (x : Option Standing) → is_memory (turn_among rings command x).answer ≡ false
among_not rings command None = refl
among_not rings command (Some r) = turn_not r command

heard_not : (faults : Bool) (rings : List Standing) (h : Option Command) → is_memory (heard_turn faults rings h).answer ≡ false
heard_not faults rings None = refl
heard_not faults rings (Some command) = go (is_off faults command)
  where
    go : (x : Bool) → is_memory (if x then refused rings refusal.Off else turn_of rings command).answer ≡ false
    go true = refl
    go false = among_not rings command (slice_get rings (ring_of command))

right_not : (faults : Bool) (rings : List Standing) (line : List ℕ) (t : Turn (List Standing)) → IsRightTurn faults rings line t → is_memory t.answer ≡ false
right_not faults rings line t (inl c) = ap (λ (x : Turn (List Standing)). is_memory x.answer) c.2 ∙ heard_not faults rings (heard c.0)
right_not faults rings line t (inr s) = ap (λ (x : Turn (List Standing)). is_memory x.answer) s.1

short_same : (faults : Bool) (rings : List Standing) (line : List ℕ) (t : Turn (List Standing)) → IsTurnOfLine faults rings line t → is_memory t.answer ≡ true → t.leaves ≡ rings
short_same faults rings line t (inl r) e = absurd (false≢true (sym (right_not faults rings line t r) ∙ e))
short_same faults rings line t (inr q) e = ap (λ (x : Turn (List Standing)). x.leaves) q

-- and where all are refused nothing changes
pub stopped_same : (refusing : Option Refusal) (faults strict : Bool) (rings : List Standing) (line : List ℕ) (t : Turn (List Standing)) → IsTurnOn refusing faults rings line t → (strict && (is_some refusing || is_memory t.answer)) ≡ true → t.leaves ≡ rings
stopped_same (Some why) faults strict rings line t is e = ap (λ (x : Turn (List Standing)). x.leaves) is
stopped_same None faults true rings line t is e = short_same faults rings line t is e
stopped_same None faults false rings line t is e = absurd (false≢true e)

-- on strict terms the turn is the one of the line
pub heeded_right : (refusing : Option Refusal) (faults : Bool) (rings : List Standing) (line : List ℕ) (t : Turn (List Standing)) → IsTurnOn refusing faults rings line t → (is_some refusing || is_memory t.answer) ≡ false → IsRightTurn faults rings line t
heeded_right (Some why) faults rings line t is e = absurd (false≢true (sym e))
heeded_right None faults rings line t (inl r) e = r
heeded_right None faults rings line t (inr q) e = absurd (false≢true (sym e ∙ ap (λ (x : Turn (List Standing)). is_memory x.answer) q))

-- ---- what an answer leaves

pub made_by : {E : Type 0} (r : Result (Unit {0}) E) (same : Type 0) (IsSo : List ℕ → List ℕ → Type 0) (old new : Pending) (said noted : List ℕ) → IsSo said noted → OnOk r ((new.answers.items ≡ old.answers.items ++ said) × (new.notes.items ≡ old.notes.items ++ noted)) → IsMade r same IsSo old new
made_by (Ok u) same IsSo old new said noted so h = (said, noted, so, h.0, h.1)
made_by (Err e) same IsSo old new said noted so h = inr (said, noted, so)

pub made_ok : {E : Type 0} (r : Result (Unit {0}) E) (same : Type 0) (IsSo WillBe : List ℕ → List ℕ → Type 0) (old new : Pending) → ((said noted : List ℕ) → IsSo said noted → WillBe said noted) → IsMade r same IsSo old new →
    OnOk r ((said : List ℕ) × (noted : List ℕ) × WillBe said noted × IsAdded old new said noted)
made_ok (Ok u) same IsSo WillBe old new f m = (m.0, m.1, f m.0 m.1 m.2, (m.3, m.4))
made_ok (Err e) same IsSo WillBe old new f m = tt

pub made_err : {E : Type 0} (r : Result (Unit {0}) E) (same still : Type 0) (IsSo WillBe : List ℕ → List ℕ → Type 0) (old new : Pending) → (same → still) → ((said noted : List ℕ) → IsSo said noted → WillBe said noted) → IsMade r same IsSo old new →
    OnErr r (still ⊎ ((said : List ℕ) × (noted : List ℕ) × WillBe said noted))
made_err (Ok u) same still IsSo WillBe old new f g m = tt
made_err (Err e) same still IsSo WillBe old new f g (inl s) = inl (f s)
made_err (Err e) same still IsSo WillBe old new f g (inr m) = inr (m.0, m.1, g m.0 m.1 m.2)
