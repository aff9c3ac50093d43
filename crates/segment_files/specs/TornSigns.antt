-- Which line can follow in a journal, as far as its rings were reached (this project's own).
use Rattle.std.specs.Prelude.{ℕ, ◌-◌, ◌^◌, List, length, Bool, true, false, nat_lt, nat_le, ◌&&◌, ◌||◌, Option, None, Some, slice_get, Result, Ok, Err}
use Rattle.text_lines.specs.declared.fault.Fault.{Fault}
use Rattle.text_lines.specs.Reading.{Either, this, that, number_at}
use Rattle.ring_model.specs.Surveys.{granted_count}
use Rattle.saved_history.specs.declared.saved.SavedEvent.{SavedEvent}
use Rattle.saved_history.specs.declared.saved.SavedEvent.TheVariants.{Granted, Refused, Member, Corrupted}
use Rattle.saved_history.specs.declared.saved.SavedSurvey.{SavedSurvey}
use Rattle.saved_history.specs.Content.{Block}
use Rattle.saved_history.specs.Versions.{latest_version}
use Rattle.saved_history.specs.Lines.{Follow, event_or_end_at, survey_or_next_at}
use Rattle.ring_check.specs.Legal.{history}
use Rattle.segment_files.specs.Remarks.{is_remark}
use Rattle.segment_files.specs.declared.reached.Reached.{Reached}

-- how far a ring was reached
abbrev pub reached_by : Block → Reached
reached_by b = record { grants = granted_count (history b); events = length b.events }

-- the number is above what was reached, by no more than this
abbrev pub is_above : ℕ → ℕ → ℕ → Bool
is_above reached most n = nat_lt reached n && nat_le (n - reached) most

-- it is that or above it, by no more than this
abbrev pub is_from : ℕ → ℕ → ℕ → Bool
is_from reached most n = nat_le reached n && nat_le (n - reached) most

-- A ring that was reached so can have this event, after at most this many others: its number is that
-- of a later grant, or it names none.
abbrev pub can_have_event : Reached → ℕ → SavedEvent → Bool
can_have_event r most (Granted seat machine order number answer) = is_above r.grants most number
can_have_event r most (Refused seat machine order) = true
can_have_event r most (Member seat machine order left number answer) =
    is_above r.grants most number
can_have_event r most (Corrupted seat machine value old) = true

-- A ring that was reached so can have this survey, after at most this many others.
abbrev pub can_have_survey : Reached → ℕ → SavedSurvey → Bool
can_have_survey r most v = is_from r.events most v.position

-- what was read is such an event, or such a survey
abbrev pub is_later_event : Reached → ℕ → Result (Either SavedEvent ℕ × List ℕ) Fault → Bool
is_later_event r most (Ok (this e, rest)) = can_have_event r most e
is_later_event r most (Ok (that n, rest)) = false
is_later_event r most (Err f) = false

abbrev pub is_later_survey : Reached → ℕ → Result (Follow × List ℕ) Fault → Bool
is_later_survey r most (Ok (this v, rest)) = can_have_survey r most v
is_later_survey r most (Ok (that n, rest)) = false
is_later_survey r most (Err f) = false

-- these bytes begin with the line of a call that the ring can have
abbrev pub is_later_call : Reached → ℕ → List ℕ → Bool
is_later_call r most bytes =
    is_later_event r most (event_or_end_at latest_version bytes)
    || is_later_survey r most (survey_or_next_at bytes)

-- the same of a ring, if there is one
abbrev pub is_later_of : Option Reached → ℕ → List ℕ → Bool
is_later_of None most bytes = false
is_later_of (Some r) most bytes = is_later_call r most bytes

-- the same of the ring with the number that was read, if one was
abbrev pub is_later : List Reached → ℕ → Result (ℕ × List ℕ) Fault → Bool
is_later rs most (Ok x) = is_later_of (slice_get rs x.0) most x.1
is_later rs most (Err f) = false

-- The line can follow: it is a remark, or the whole line of a call that one of the rings can have.
unfoldable pub can_follow : List Reached → ℕ → List ℕ → Bool
can_follow rs most line = is_remark line || is_later rs most (number_at (2 ^ 32) 32 line)
