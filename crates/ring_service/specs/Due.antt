-- When a segment of served rings is due to end (this project's own).
use Rattle.std.specs.Prelude.{◌≡◌, ◌≢◌, ℕ, ◌+◌, ◌-◌, nat_le, nat_lt, Bool, false, ◌||◌, List, [], ◌∷◌, length, slice_get, Option, None, Some}
use Rattle.std.specs.List.{sum_by, AllByRecursion}
use Rattle.ring_model.specs.Limits.{machine_limit, event_limit}
use Rattle.ring_service.specs.Standings.{Standing}
use Rattle.ring_service.specs.Totals.{surveys_among}
use Rattle.ring_service.specs.Saved.{IsRight}
use Rattle.ring_service.specs.Turns.{RingTrace, events, surveyed, Turn, IsTurnOfLine}
use Rattle.ring_service.specs.declared.answers.Answer.TheVariants as answer
use Rattle.ring_service.specs.declared.answers.Refusal.TheVariants as refusal

-- the lines that a ring's segment has in its journal: one for each event, and one for each survey
-- that a client was given
abbrev pub lines_in : Standing → ℕ
lines_in r = length r.history + surveys_among r.clients

-- those of all rings
abbrev pub lines_of : List Standing → ℕ
lines_of rings = sum_by lines_in rings

-- A line records no more events than a ring may have machines. A ring is short if it has fewer
-- places left for events than that.
abbrev pub is_short : Standing → Bool
is_short r = nat_lt (event_limit - machine_limit) (length r.history)

abbrev pub has_short : List Standing → Bool
has_short [] = false
has_short (r ∷ rs) = is_short r || has_short rs

-- The segment is due: its journal has at least this number of lines, or one of its rings is short.
-- Without a limit no segment is.
abbrev pub is_due : Option ℕ → List Standing → Bool
is_due None rings = false
is_due (Some limit) rings = nat_le limit (lines_of rings) || has_short rings

-- ---- the same, after a line that called the ring of this number

abbrev pub is_short_at : Option Standing → Bool
is_short_at None = false
is_short_at (Some r) = is_short r

abbrev pub is_due_at : Option ℕ → List Standing → ℕ → Bool
is_due_at None rings ring = false
is_due_at (Some limit) rings ring =
    nat_le limit (lines_of rings) || is_short_at (slice_get rings ring)

-- the lines of what a turn recorded
abbrev pub lines_recorded : List RingTrace → ℕ
lines_recorded [] = 0
lines_recorded (events ring es ∷ records) = length es + lines_recorded records
lines_recorded (surveyed ring seat s ∷ records) = 1 + lines_recorded records

-- ---- a law: while no ring is short, no line is refused since a history is full

abbrev pub NeverFull : Type 0
NeverFull =
    (faults : Bool) (rings : List Standing) (line : List ℕ) (turn : Turn (List Standing))
    → AllByRecursion IsRight rings → has_short rings ≡ false → IsTurnOfLine faults rings line turn
    → turn.answer ≢ answer.Refused refusal.HistoryFull
