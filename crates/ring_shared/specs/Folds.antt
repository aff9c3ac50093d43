-- The effect of a list of events on a ring, whatever the resource: the ring after it, its survey,
-- and its summary.
use Rattle.std.specs.Prelude.{◌≡◌, ℕ, Bool, true, false, ◌-◌, ◌<◌, List, [], ◌∷◌, length, take, Option, Some, None}
use mathlib.Core.List.{IsPrefix}
use Rattle.ring_model.specs.Ring.{Ring, written}
use Rattle.ring_model.specs.Surveys.{calm, survey_from}
use Rattle.ring_model.specs.declared.events.Event.{Event}
use Rattle.ring_model.specs.declared.events.Survey.{Survey}
use Rattle.ring_logs.specs.Replays.{called}
use Rattle.ring_shared.specs.declared.shown.Change.{Change}
use Rattle.ring_shared.specs.declared.shown.Change.TheVariants.{Write, Become}

-- the ring after these events
abbrev pub ring_after : Ring → List Event → Ring
ring_after r [] = r
ring_after r (e ∷ es) = ring_after (called r e.op) es

-- the survey at the end of these events
unfoldable pub survey_of : Ring → List Event → Survey
survey_of start h = survey_from (ring_after start h) (length h) (calm h)

-- a ring, a position and a calm are those at the end of these events
pub record IsSummary (start : Ring) (h : List Event) (ring : Ring) (position : ℕ) (calm_there : ℕ) :
    Type 0 where
  pub ring_is : ring ≡ ring_after start h
  pub position_is : position ≡ length h
  pub calm_is : calm_there ≡ calm h

-- the last of these events left this value in this machine and changed no other, and the calm at
-- their end is this
pub record IsWritten (start : Ring) (h : List Event) (machine value calm_there : ℕ) : Type 0 where
  pub machine_is : machine < length start.values
  pub value_is : value < start.k
  pub ring_is : 0 < length h
      → ring_after start h ≡ written (ring_after start (take (length h - 1) h)) machine value
  pub calm_is : calm_there ≡ calm h

-- a change has the effect of these events: of the last of them only, or of all of them
abbrev pub IsEffect : Ring → List Event → Change → ℕ → Type 0
IsEffect start h (Write machine value) calm_there = IsWritten start h machine value calm_there
IsEffect start h (Become ring) calm_there = (ring ≡ ring_after start h) × (calm_there ≡ calm h)

-- whether it is that of several events at once
abbrev pub is_block : Change → Bool
is_block (Write machine value) = false
is_block (Become ring) = true

-- a ring, a position and a calm are those after a prefix of these events
pub record IsSummaryWithin (start : Ring) (h : List Event) (ring : Ring) (position : ℕ)
    (calm_there : ℕ) : Type 0 where
  pub past : List Event
  pub begins : IsPrefix past h
  pub of_past : IsSummary start past ring position calm_there

-- the state that answers for these events: their survey, beside a summary of a prefix of them, or a
-- summary of all of them where the survey was not made yet
abbrev pub AnswersFor : Ring → List Event → Option Survey → Ring → ℕ → ℕ → Type 0
AnswersFor start h (Some s) ring position calm_there =
    (s ≡ survey_of start h) × IsSummaryWithin start h ring position calm_there
AnswersFor start h None ring position calm_there = IsSummary start h ring position calm_there
