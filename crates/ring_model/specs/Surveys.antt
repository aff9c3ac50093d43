-- Surveys of a history: the measures of its ring at one of its places.
use Rattle.std.specs.Prelude.{ℕ, Bool, true, false, not, List, take, reverse}
use Rattle.std.specs.List.{take_while, count_by}
use Rattle.ring_model.specs.Ring.{Ring, privileged_count, first_privileged, rest}
use Rattle.ring_model.specs.History.{Works, State, after}
use Rattle.ring_model.specs.declared.events.Reply.{Reply}
use Rattle.ring_model.specs.declared.events.Reply.TheVariants.{Granted, NotPrivileged, Corrupted}
use Rattle.ring_model.specs.declared.events.Event.{Event}
use Rattle.ring_model.specs.declared.events.Survey.{Survey}

-- the reply to a granted pass
abbrev pub is_granted : Reply → Bool
is_granted (Granted number result) = true
is_granted NotPrivileged = false
is_granted (Corrupted old) = false

-- the reply to a corruption
abbrev pub is_corrupted : Reply → Bool
is_corrupted (Granted number result) = false
is_corrupted NotPrivileged = false
is_corrupted (Corrupted old) = true

-- how many passes of a history were granted, and how many of its events are corruptions
abbrev pub granted_count : List Event → ℕ
granted_count h = count_by (λ (e : Event). is_granted e.reply) h

abbrev pub corrupted_count : List Event → ℕ
corrupted_count h = count_by (λ (e : Event). is_corrupted e.reply) h

-- the longest suffix without a corruption, read backwards: looking back from the end, the events
-- before a corruption comes
abbrev pub since_corruption : List Event → List Event
since_corruption h = take_while (λ (e : Event). not (is_corrupted e.reply)) (reverse h)

-- the calm: the granted passes since the last corruption, or since the start where there was none
-- (this project's own)
abbrev pub calm : List Event → ℕ
calm h = granted_count (since_corruption h)

-- the survey of a ring, of a position and of a calm
abbrev pub survey_from : Ring → ℕ → ℕ → Survey
survey_from now position calm = record {
  position = position;
  privileged = privileged_count now.values;
  first = first_privileged now.values;
  calm = calm;
  rest = rest now;
}

-- the answer of a survey at the place after the first `position` events
abbrev pub survey_at : {C : Type 0} → Works C → State C → List Event → ℕ → Survey
survey_at w a h position =
    survey_from (after w a (take position h)).ring position (calm (take position h))
