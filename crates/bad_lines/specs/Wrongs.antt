-- What is there in a bad line, and what should be (this project's own).
use Rattle.std.specs.Prelude.{ℕ, ◌+◌, ◌-◌, cond, ◌==◌, nat_lt, nat_le, not, ◌&&◌, List, [], ◌∷◌, length, take, Bool, true, false, Option, Some, None}
use Rattle.std.specs.List.{list_all}
use Rattle.ring_model.specs.Limits.{seat_limit}
use Rattle.ring_model.specs.declared.events.Op.{Op}
use Rattle.ring_model.specs.declared.events.Op.TheVariants.{Pass, Member, Corrupt}
use Rattle.ring_model.specs.declared.events.Event.{Event}
use Rattle.ring_model.specs.declared.events.Survey.{Survey}
use Rattle.ring_model.specs.Ring.{ring_with}
use Rattle.ring_model.specs.History.{State, reply}
use Rattle.ring_model.specs.Resources.{till}
use Rattle.ring_model.specs.Surveys.{survey_at}
use Rattle.ring_model.specs.Groups.{left_after}
use Rattle.saved_history.specs.declared.saved.SavedSurvey.{SavedSurvey}
use Rattle.ring_check.specs.declared.answers.Kind.TheVariants as kind
use Rattle.ring_check.specs.Limits.{machine_limit_of, value_limit_of}
use Rattle.ring_check.specs.Lines.{Line, RingLine, StartLine, EventLine, EndLine, SurveyLine, DoneLine}
use Rattle.ring_check.specs.Meaning.{survey_of}
use Rattle.ring_check.specs.Members.{run_of, goes_on}
use Rattle.ring_check.specs.Table.{Before, event_of, first_state, now, are_parameters, in_range, is_replied, is_onward}
use Rattle.bad_lines.specs.declared.wrongs.Bad.{Bad}
use Rattle.bad_lines.specs.declared.wrongs.Wrong.{Wrong}
use Rattle.bad_lines.specs.declared.wrongs.Wrong.TheVariants.{Size, Number, Limit, Replied, Unfinished, Disordered, Early, Inside, Surveyed}

-- the first of these values that is not below the limit
abbrev pub first_over : ℕ → List ℕ → ℕ
first_over limit [] = 0
first_over limit (v ∷ vs) = cond (nat_lt v limit) (first_over limit vs) v

-- the number of a call that is too large
abbrev pub op_wrong : ℕ → ℕ → Op → Wrong
op_wrong n k (Pass machine order) = Limit machine n
op_wrong n k (Member machine order left) = Limit machine n
op_wrong n k (Corrupt machine value) = cond (nat_lt machine n) (Limit value k) (Limit machine n)

-- or of its seat
abbrev pub range_wrong : ℕ → ℕ → Event → Wrong
range_wrong n k e = cond (nat_lt e.seat seat_limit) (op_wrong n k e.op) (Limit e.seat seat_limit)

-- of a call that may not come where the last one has this many members left
abbrev pub group_wrong : ℕ → List Event → ℕ → ℕ → Op → Wrong
group_wrong n run last seat (Pass machine order) = Unfinished (last - 1)
group_wrong n run last seat (Member machine order left) =
    cond (nat_lt (left + 1) n)
    (cond (goes_on run seat order left) Disordered (Unfinished (last - 1))) (Limit left (n - 1))
group_wrong n run last seat (Corrupt machine value) = Unfinished (last - 1)

-- of an event of a ring of n machines, in this state
abbrev pub event_wrong : ℕ → List Event → ℕ → State ℕ → Event → Wrong
event_wrong n run last a e =
    cond (in_range n a.ring.k e)
    (cond (is_replied a e) (group_wrong n run last e.seat e.op)
    (Replied e.reply (reply till a e.op))) (range_wrong n a.ring.k e)

-- of an end line
abbrev pub end_wrong : ℕ → List Event → Wrong
end_wrong said h = cond (said == length h) (Unfinished (left_after h - 1)) (Number said (length h))

-- a survey is in order: it is of a seat, not earlier than the one before, and in the history
abbrev pub is_in_place : Before → SavedSurvey → Bool
is_in_place b s =
    nat_lt s.seat seat_limit
    && (is_onward b.seat b.position s && nat_le s.position (length b.events))

-- of a survey line
abbrev pub survey_wrong : Before → SavedSurvey → Wrong
survey_wrong b s =
    cond (nat_lt s.seat seat_limit)
    (cond (is_onward b.seat b.position s)
    (cond (nat_le s.position (length b.events))
    (cond (left_after (take s.position b.events) == 0)
    (Surveyed (survey_of s)
    (survey_at till (first_state (ring_with b.k b.start)) b.events s.position))
    (Inside s.position)) (Limit s.position (length b.events + 1)))
    (Early s.seat s.position b.seat b.position)) (Limit s.seat seat_limit)

-- of a line that the table refuses after these facts
abbrev pub wrong : Before → Line → Wrong
wrong b (RingLine index n k) =
    cond (are_parameters b.version n k) (Number index b.rings)
    (Size n k (machine_limit_of b.version) (value_limit_of b.version))
wrong b (StartLine s) = Limit (first_over b.k s) b.k
wrong b (EventLine e) = event_wrong b.n (run_of b.events) (left_after b.events) (now b) (event_of e)
wrong b (EndLine said) = end_wrong said b.events
wrong b (SurveyLine s) = survey_wrong b s
wrong b (DoneLine said) = Number said b.rings

-- the fault of a survey's place, if the one in its place before it had this seat and position, and
-- there are this many events
abbrev pub place_fault : ℕ → ℕ → ℕ → SavedSurvey → Option Bad
place_fault seat position events s =
    cond (nat_lt s.seat seat_limit)
    (cond (is_onward seat position s)
    (cond (nat_le s.position events) None
    (Some (record { kind = kind.Survey; wrong = Limit s.position (events + 1) })))
    (Some (record { kind = kind.Survey; wrong = Early s.seat s.position seat position })))
    (Some (record { kind = kind.Range; wrong = Limit s.seat seat_limit }))
