-- How each command is answered, at each state of the rings (this project's own).
use Rattle.std.specs.Prelude.{◌≡◌, ℕ, ◌+◌, ◌≤◌, List, [], ◌∷◌, length, drop, slice_get, slice_set, Bool, false, not, if◌then◌else◌, Option, Some, None, ◌⊎◌}
use Rattle.ring_model.specs.Ring.{is_privileged}
use Rattle.ring_model.specs.History.{reply}
use Rattle.ring_model.specs.Resources.{till}
use Rattle.ring_model.specs.declared.events.Op.{Op}
use Rattle.ring_model.specs.declared.events.Op.TheVariants as op
use Rattle.ring_model.specs.declared.events.Reply.{Reply}
use Rattle.ring_model.specs.declared.events.Reply.TheVariants as reply_is
use Rattle.ring_model.specs.declared.events.Event.{Event}
use Rattle.ring_model.specs.declared.events.Survey.{Survey}
use Rattle.ring_model.specs.Bases.{shifted_reply}
use Rattle.one_thread_ring.specs.Refusals.{Bounds, seat_refusal, place_refusal, pass_refusal, corrupt_refusal, group_refusal}
use Rattle.one_thread_ring.specs.declared.errors.CallError.{CallError}
use Rattle.one_thread_ring.specs.declared.errors.CallError.TheVariants as call
use Rattle.text_lines.specs.Limits.{line_limit}
use Rattle.ring_service.specs.Commands.{Command, pass, try, group, corrupt, survey, glance, save, IsLineOf, heard, ring_of}
use Rattle.ring_service.specs.Standings.{Standing, state_of, event_now, block_now, survey_now, shifted_survey_now, with_events, with_survey}
use Rattle.ring_service.specs.declared.turns.CallAnswer.{CallAnswer}
use Rattle.ring_service.specs.declared.turns.Trace.{Trace}
use Rattle.ring_service.specs.declared.turns.Trace.TheVariants as trace
use Rattle.ring_service.specs.declared.answers.Answer.{Answer}
use Rattle.ring_service.specs.declared.answers.Answer.TheVariants as answer
use Rattle.ring_service.specs.declared.answers.Refusal.{Refusal}
use Rattle.ring_service.specs.declared.answers.Refusal.TheVariants as refusal

-- the record of a call: the events by which the history of the ring of this number grew, or a
-- survey that a seat's log keeps
pub data RingTrace : Type 0 where
  events : ℕ → List Event → RingTrace
  surveyed : ℕ → ℕ → Survey → RingTrace

-- one call answered: its answer, its record, and the state after it
pub record Turn (S : Type 0) : Type 0 where
  pub answer : Answer
  pub recorded : List RingTrace
  pub leaves : S

-- a call that is refused changes nothing
abbrev pub refused : {S : Type 0} → S → Refusal → Turn S
refused s why = record { answer = answer.Refused why; recorded = []; leaves = s }

-- the refusals of a ring that is called by numbers, as those of a command
abbrev pub refusal_of : CallError → Refusal
refusal_of call.NoSeat = refusal.NoSeat
refusal_of call.NoMachine = refusal.NoMachine
refusal_of call.NoValue = refusal.NoValue
refusal_of call.NotRising = refusal.NotRising
refusal_of call.WholeRing = refusal.WholeRing
refusal_of (call.NotPrivileged m) = refusal.NotPrivileged m
refusal_of call.HistoryFull = refusal.HistoryFull
refusal_of call.OutOfMemory = refusal.OutOfMemory

abbrev pub unless : {S : Type 0} → Option CallError → S → Turn S → Turn S
unless None s turn = turn
unless (Some why) s turn = refused s (refusal_of why)

-- the bounds of a call
abbrev pub bounds_now : Standing → Bounds
bounds_now r = record {
  seats = length r.clients;
  ring = (state_of r).ring;
  events = length r.history;
}

-- ---- the turns

abbrev pub answer_of : Reply → Answer
answer_of (reply_is.Granted number result) = answer.Granted number result
answer_of reply_is.NotPrivileged = answer.Waits
answer_of (reply_is.Corrupted old) = answer.Corrupted old

-- a call of the ring: its ring afterwards is that of the one-thread ring, and so is its answer,
-- shifted
abbrev pub called : ℕ → Standing → ℕ → Op → Turn Standing
called ring r seat op = record {
  answer = answer_of (shifted_reply r.base (reply till (state_of r) op));
  recorded = events ring (event_now r seat op ∷ []) ∷ [];
  leaves = with_events r seat (event_now r seat op ∷ []);
}

-- a machine passes, if it is privileged
abbrev pub passed : ℕ → Standing → ℕ → ℕ → ℕ → Turn Standing
passed ring r seat machine order =
    unless (pass_refusal (bounds_now r) seat machine) r (called ring r seat (op.Pass machine order))

-- it waits, which is not an event
abbrev pub waits : Standing → Turn Standing
waits r = record { answer = answer.Waits; recorded = []; leaves = r }

-- a group passes
abbrev pub grouped : ℕ → Standing → ℕ → ℕ → List ℕ → Turn Standing
grouped ring r seat order machines = record {
  answer = answer.Block (r.base.events + length r.history) (length machines);
  recorded = events ring (block_now r seat order machines) ∷ [];
  leaves = with_events r seat (block_now r seat order machines);
}

-- the turn of a command at its ring
abbrev pub turn_at : Standing → Command → Turn Standing
turn_at r (pass ring seat machine order) = passed ring r seat machine order
turn_at r (try ring seat machine order) =
    if is_privileged (state_of r).ring.values machine
    then passed ring r seat machine order
    else unless (place_refusal (bounds_now r) seat machine) r (waits r)
turn_at r (corrupt ring seat machine value) =
    unless (corrupt_refusal (bounds_now r) seat machine value) r
    (called ring r seat (op.Corrupt machine value))
turn_at r (group ring seat order machines) =
    unless (group_refusal (bounds_now r) seat machines) r (grouped ring r seat order machines)
turn_at r (survey ring seat) =
    unless (seat_refusal (bounds_now r) seat) r (record {
      answer = answer.Survey (shifted_survey_now r);
      recorded = surveyed ring seat (survey_now r) ∷ [];
      leaves = with_survey r seat (survey_now r);
    })
turn_at r (glance ring) = record {
  answer = answer.Survey (shifted_survey_now r);
  recorded = [];
  leaves = r;
}
turn_at r (save name) = record { answer = answer.Saved; recorded = []; leaves = r }

-- the same among all rings
abbrev pub placed : List Standing → ℕ → Turn Standing → Turn (List Standing)
placed rings ring turn = record {
  answer = turn.answer;
  recorded = turn.recorded;
  leaves = slice_set rings ring turn.leaves;
}

abbrev pub turn_among : List Standing → Command → Option Standing → Turn (List Standing)
turn_among rings command None = refused rings refusal.NoRing
turn_among rings command (Some r) = placed rings (ring_of command) (turn_at r command)

abbrev pub turn_of : List Standing → Command → Turn (List Standing)
turn_of rings command = turn_among rings command (slice_get rings (ring_of command))

-- ---- the result of a turn in code

-- the record at the ring of this number: nothing, the events from a place on, or a survey
abbrev pub recorded_seen : ℕ → Standing → Trace → List RingTrace
recorded_seen ring r trace.Nothing = []
recorded_seen ring r (trace.Events from) = events ring (drop from r.history) ∷ []
recorded_seen ring r (trace.Survey seat s) = surveyed ring seat s ∷ []

abbrev pub turn_seen : ℕ → Standing → CallAnswer → Turn Standing
turn_seen ring r m = record {
  answer = m.answer;
  recorded = recorded_seen ring r m.trace;
  leaves = r;
}

-- the turn is the one of the command, unless memory ran out
abbrev pub IsTurnAt : Standing → Command → Turn Standing → Type 0
IsTurnAt r command turn = (turn ≡ turn_at r command) ⊎ (turn ≡ refused r refusal.OutOfMemory)

-- the same among all rings
abbrev pub history_of : Option Standing → List Event
history_of None = []
history_of (Some r) = r.history

abbrev pub recorded_among : ℕ → List Standing → Trace → List RingTrace
recorded_among ring rings trace.Nothing = []
recorded_among ring rings (trace.Events from) =
    events ring (drop from (history_of (slice_get rings ring))) ∷ []
recorded_among ring rings (trace.Survey seat s) = surveyed ring seat s ∷ []

abbrev pub turn_seen_among : ℕ → List Standing → CallAnswer → Turn (List Standing)
turn_seen_among ring rings m = record {
  answer = m.answer;
  recorded = recorded_among ring rings m.trace;
  leaves = rings;
}

abbrev pub IsTurn : List Standing → Command → Turn (List Standing) → Type 0
IsTurn rings command turn =
    (turn ≡ turn_of rings command) ⊎ (turn ≡ refused rings refusal.OutOfMemory)

-- ---- the turn of a line

-- a fault, where none is permitted
abbrev pub is_off : Bool → Command → Bool
is_off faults (corrupt ring seat machine value) = not faults
is_off faults _ = false

-- the turn of what the rings hear of a command
abbrev pub heard_turn : Bool → List Standing → Option Command → Turn (List Standing)
heard_turn faults rings (Some command) =
    if is_off faults command then refused rings refusal.Off else turn_of rings command
heard_turn faults rings None = refused rings refusal.OrderTooLarge

-- the turn is the one of what the rings hear, unless memory ran out
abbrev pub IsHeardTurn : Bool → List Standing → Option Command → Turn (List Standing) → Type 0
IsHeardTurn faults rings heard turn =
    (turn ≡ heard_turn faults rings heard) ⊎ (turn ≡ refused rings refusal.OutOfMemory)

-- the line of a command, which is not too long
abbrev pub IsCommand : Command → List ℕ → Type 0
IsCommand command line = IsLineOf command line × (length line ≤ line_limit)

-- the turn of the command whose line it is, or the refusal of a line that is that of none
abbrev pub IsRightTurn : Bool → List Standing → List ℕ → Turn (List Standing) → Type 0
IsRightTurn faults rings line turn =
    ((command : Command)
    × IsCommand command line
    × (turn ≡ heard_turn faults rings (heard command)))
    ⊎ (((command : Command) → IsCommand command line → ⊥) × (turn ≡ refused rings refusal.Syntax))

-- the turn is the one of the line, unless memory ran out
abbrev pub IsTurnOfLine : Bool → List Standing → List ℕ → Turn (List Standing) → Type 0
IsTurnOfLine faults rings line turn =
    IsRightTurn faults rings line turn ⊎ (turn ≡ refused rings refusal.OutOfMemory)

-- A line has one turn.
abbrev pub OneTurnIsRight : Type 0
OneTurnIsRight =
    (faults : Bool) (rings : List Standing) (line : List ℕ) (t u : Turn (List Standing))
    → IsRightTurn faults rings line t → IsRightTurn faults rings line u → t ≡ u
