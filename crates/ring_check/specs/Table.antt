-- The refusals of the checker: the fault of a line, where the lines before it are known (this
-- project's own).
use Rattle.std.specs.Prelude.{ℕ, ◌+◌, cond, ◌==◌, nat_lt, nat_le, ◌&&◌, ◌||◌, List, [], ◌∷◌, ◌++◌, length, take, Option, Some, None, Bool, true, false}
use Rattle.std.specs.List.{list_all}
use Rattle.ring_model.specs.Limits.{seat_limit}
use Rattle.ring_model.specs.declared.events.Op.{Op}
use Rattle.ring_model.specs.declared.events.Op.TheVariants.{Pass, Member, Corrupt}
use Rattle.ring_model.specs.declared.events.Reply.{Reply}
use Rattle.ring_model.specs.declared.events.Reply.TheVariants.{Granted, NotPrivileged, Corrupted}
use Rattle.ring_model.specs.declared.events.Event.{Event}
use Rattle.ring_model.specs.declared.events.Survey.{Survey}
use Rattle.ring_model.specs.Ring.{Ring, ring_with}
use Rattle.ring_model.specs.History.{State, opening, after, reply}
use Rattle.ring_model.specs.Resources.{till}
use Rattle.ring_model.specs.Surveys.{survey_at}
use Rattle.ring_model.specs.Groups.{left_after}
use Rattle.saved_history.specs.declared.saved.SavedEvent.{SavedEvent}
use Rattle.saved_history.specs.declared.saved.SavedEvent.TheVariants as saved
use Rattle.saved_history.specs.declared.saved.SavedSurvey.{SavedSurvey}
use Rattle.ring_check.specs.declared.answers.Kind.{Kind}
use Rattle.ring_check.specs.declared.answers.Kind.TheVariants.{Parameter, Range, Reply as ReplyKind, Count, Survey as SurveyKind, Group}
use Rattle.ring_check.specs.Limits.{machine_limit_of, value_limit_of}
use Rattle.ring_check.specs.Members.{run_of, may_come}
use Rattle.ring_check.specs.Lines.{Line, RingLine, StartLine, EventLine, EndLine, SurveyLine, DoneLine}

-- the ring's event that an event line describes
abbrev pub event_of : SavedEvent → Event
event_of (saved.Granted seat machine order number result) = record {
  seat = seat;
  op = Pass machine order;
  reply = Granted number result;
}
event_of (saved.Member seat machine order left number result) = record {
  seat = seat;
  op = Member machine order left;
  reply = Granted number result;
}
event_of (saved.Refused seat machine order) = record {
  seat = seat;
  op = Pass machine order;
  reply = NotPrivileged;
}
event_of (saved.Corrupted seat machine value old) = record {
  seat = seat;
  op = Corrupt machine value;
  reply = Corrupted old;
}

-- the one-thread ring before any event, and a till with the amount 0
abbrev pub first_state : Ring → State ℕ
first_state ring = opening ring 0

-- The facts that the lines before a line give.
pub record Before : Type 0 where
  -- the version of the text
  pub version : ℕ
  -- how many lines they are, the first line of the text too
  pub line : ℕ
  -- how many of them are ring lines
  pub rings : ℕ
  -- N, K, the start values and the events of the block so far
  pub n : ℕ
  pub k : ℕ
  pub start : List ℕ
  pub events : List Event
  -- the seat and the position of the survey line before, 0 and 0 where the block has none so far
  pub seat : ℕ
  pub position : ℕ

-- after the first line of a text, which says this version
abbrev pub nothing : ℕ → Before
nothing version = record {
  version = version;
  line = 1;
  rings = 0;
  n = 0;
  k = 0;
  start = [];
  events = [];
  seat = 0;
  position = 0;
}

-- with one line more
abbrev pub after_line : Before → Line → Before
after_line b (RingLine index n k) = record {
  version = b.version;
  line = b.line + 1;
  rings = b.rings + 1;
  n = n;
  k = k;
  start = [];
  events = [];
  seat = 0;
  position = 0;
}
after_line b (StartLine s) = record b { line = b.line + 1; start = s }
after_line b (EventLine e) = record b { line = b.line + 1; events = b.events ++ event_of e ∷ [] }
after_line b (EndLine said) = record b { line = b.line + 1 }
after_line b (SurveyLine s) = record b { line = b.line + 1; seat = s.seat; position = s.position }
after_line b (DoneLine said) = record b { line = b.line + 1 }

-- with these lines more
abbrev pub after_lines : Before → List Line → Before
after_lines b [] = b
after_lines b (l ∷ ls) = after_lines (after_line b l) ls

-- a ring in a text of this version may have n machines and K values: 2 machines or more, as many
-- values or more, and neither past its limit
abbrev pub are_parameters : ℕ → ℕ → ℕ → Bool
are_parameters version n k =
    nat_le 2 n
    && (nat_le n (machine_limit_of version) && (nat_le n k && nat_le k (value_limit_of version)))

-- the one-thread ring's state after the events of the block so far
abbrev pub now : Before → State ℕ
now b = after till (first_state (ring_with b.k b.start)) b.events

-- the call is one of a ring with n machines and K values
abbrev pub op_in_range : ℕ → ℕ → Op → Bool
op_in_range n k (Pass machine order) = nat_lt machine n
op_in_range n k (Member machine order left) = nat_lt machine n
op_in_range n k (Corrupt machine value) = nat_lt machine n && nat_lt value k

-- and it is made by one of the seats
abbrev pub in_range : ℕ → ℕ → Event → Bool
in_range n k e = nat_lt e.seat seat_limit && op_in_range n k e.op

-- whether two replies are the same
abbrev pub same_reply : Reply → Reply → Bool
same_reply (Granted a b) (Granted c d) = (a == c) && (b == d)
same_reply NotPrivileged NotPrivileged = true
same_reply (Corrupted a) (Corrupted b) = a == b
same_reply _ _ = false

-- the reply is the one-thread ring's in this state
abbrev pub is_replied : State ℕ → Event → Bool
is_replied a e = same_reply e.reply (reply till a e.op)

-- the fault of an event of a ring of n machines in this state, after the members of an open
-- block
abbrev pub event_fault : ℕ → List Event → State ℕ → Event → Option Kind
event_fault n run a e =
    cond (in_range n a.ring.k e)
    (cond (is_replied a e) (cond (may_come n run e) None (Some Group)) (Some ReplyKind))
    (Some Range)

-- the fault of an end line with this number, after these events
abbrev pub end_fault : ℕ → List Event → Option Kind
end_fault said h = cond (said == length h) (cond (left_after h == 0) None (Some Group)) (Some Count)

-- a survey is not earlier than the one before, which had this seat and position
abbrev pub is_onward : ℕ → ℕ → SavedSurvey → Bool
is_onward seat position s = nat_lt seat s.seat || ((seat == s.seat) && nat_le position s.position)

-- whether a survey line agrees with a survey of the ring
abbrev pub same_survey : SavedSurvey → Survey → Bool
same_survey s r =
    (s.privileged == r.privileged)
    && ((s.first == r.first) && ((s.calm == r.calm) && (s.rest == r.rest)))

-- the survey is the ring's after its first POSITION events, there are that many, and that place is
-- inside no block
abbrev pub is_surveyed : Before → SavedSurvey → Bool
is_surveyed b s =
    nat_le s.position (length b.events)
    && (same_survey s (survey_at till (first_state (ring_with b.k b.start)) b.events s.position)
    && (left_after (take s.position b.events) == 0))

-- the table: the fault of a line; where it has two, the kind with the lower number
abbrev pub fault : Before → Line → Option Kind
fault b (RingLine index n k) =
    cond (are_parameters b.version n k) (cond (index == b.rings) None (Some Count)) (Some Parameter)
fault b (StartLine s) = cond (list_all (λ v. nat_lt v b.k) s) None (Some Range)
fault b (EventLine e) = event_fault b.n (run_of b.events) (now b) (event_of e)
fault b (EndLine said) = end_fault said b.events
fault b (SurveyLine s) =
    cond (nat_lt s.seat seat_limit)
    (cond (is_onward b.seat b.position s && is_surveyed b s) None (Some SurveyKind)) (Some Range)
fault b (DoneLine said) = cond (said == b.rings) None (Some Count)
