-- A history worked by hand: three machines with three values over the till, and the calls of two
-- seats.
use Rattle.std.specs.Prelude.{◌≡◌, ℕ, List, [], ◌∷◌}
use Rattle.ring_model.specs.Ring.{ring_with}
use Rattle.ring_model.specs.Runs.{GoesRoundFrom}
use Rattle.ring_model.specs.History.{State, after, IsLegal}
use Rattle.ring_model.specs.Surveys.{survey_at}
use Rattle.ring_model.specs.Grants.{grants_of, granted_machines, settled_run, settled_grants_of}
use Rattle.ring_model.specs.Logs.{calls_of, Fits}
use Rattle.ring_model.specs.Resources.{till}
use Rattle.ring_model.specs.Replay.{till_state}
use Rattle.ring_model.specs.declared.events.Op.TheVariants.{Pass, Corrupt}
use Rattle.ring_model.specs.declared.events.Reply.TheVariants.{Granted, NotPrivileged, Corrupted}
use Rattle.ring_model.specs.declared.events.Event.{Event}
use Rattle.ring_model.specs.declared.events.Survey.{Survey}
use Rattle.ring_model.specs.declared.events.Entry.{Entry}
use Rattle.ring_model.specs.declared.events.Entry.TheVariants as entry

abbrev pub worked_start : State ℕ
worked_start = till_state (ring_with 3 (0 ∷ 2 ∷ 0 ∷ [])) 0 0

-- its events: machine 0 steps on to 1, its second pass is not granted, machine 2 copies, and the
-- ring is settled
abbrev pub zeroth_event : Event
zeroth_event = record { seat = 0; op = Pass 0 10; reply = Granted 1 10 }

abbrev pub first_event : Event
first_event = record { seat = 1; op = Pass 0 5; reply = NotPrivileged }

abbrev pub second_event : Event
second_event = record { seat = 0; op = Pass 2 7; reply = Granted 2 17 }

-- a fault breaks it at machine 1, whose pass settles it again
abbrev pub third_event : Event
third_event = record { seat = 1; op = Corrupt 1 0; reply = Corrupted 2 }

abbrev pub fourth_event : Event
fourth_event = record { seat = 1; op = Pass 1 1; reply = Granted 3 18 }

-- from there machines 2 and 0 pass in turn
abbrev pub fifth_event : Event
fifth_event = record { seat = 0; op = Pass 2 4; reply = Granted 4 22 }

abbrev pub sixth_event : Event
sixth_event = record { seat = 1; op = Pass 0 0; reply = Granted 5 22 }

abbrev pub worked_history : List Event
worked_history =
    zeroth_event ∷ first_event ∷ second_event ∷ third_event ∷ fourth_event ∷ fifth_event
    ∷ sixth_event ∷ []

abbrev pub worked_survey : ℕ → Survey
worked_survey place = survey_at till worked_start worked_history place

abbrev pub seen : ℕ → ℕ → ℕ → ℕ → ℕ → Survey
seen position privileged first calm rest = record {
  position = position;
  privileged = privileged;
  first = first;
  calm = calm;
  rest = rest;
}

-- an entry for a call, and one for a survey
abbrev pub called : ℕ → Event → Entry
called position e = entry.Receipt (record { position = position; event = e })

abbrev pub looked : Survey → Entry
looked s = entry.Survey s

abbrev pub FitsWorked : ℕ → List Entry → Type 0
FitsWorked seat log = Fits till worked_start worked_history seat log

-- the states and the surveys
pub record WorkedPlaces : Type 0 where
  pub legal : IsLegal till worked_start worked_history
  pub last : after till worked_start worked_history ≡ till_state (ring_with 3 (2 ∷ 1 ∷ 1 ∷ [])) 22 5
  pub at_start : worked_survey 0 ≡ seen 0 3 0 0 6
  pub after_one : worked_survey 1 ≡ seen 1 2 1 1 3
  pub settled : worked_survey 3 ≡ seen 3 1 1 2 0
  pub corrupted : worked_survey 4 ≡ seen 4 2 1 0 3
  pub again : worked_survey 5 ≡ seen 5 1 2 1 0
  pub at_end : worked_survey 7 ≡ seen 7 1 1 3 0

-- the grants, in all and in the settled run, which begins after the pass that settled the ring
-- again
pub record WorkedGrants : Type 0 where
  pub machines : granted_machines worked_history ≡ 0 ∷ 2 ∷ 1 ∷ 2 ∷ 0 ∷ []
  pub of_zero : grants_of 0 worked_history ≡ 2
  pub of_one : grants_of 1 worked_history ≡ 1
  pub of_two : grants_of 2 worked_history ≡ 2
  pub run : settled_run till worked_start worked_history ≡ fifth_event ∷ sixth_event ∷ []
  -- from machine 2 they go to machine 0, and not back to machine 1
  pub round : GoesRoundFrom 3 2 (granted_machines (settled_run till worked_start worked_history))
  pub not_back : ¬ GoesRoundFrom 3 2 (2 ∷ 1 ∷ [])
  pub settled_of_zero : settled_grants_of till worked_start 0 worked_history ≡ 1
  pub settled_of_one : settled_grants_of till worked_start 1 worked_history ≡ 0
  pub settled_of_two : settled_grants_of till worked_start 2 worked_history ≡ 1

-- the calls of a seat, a log that fits, and logs that do not
pub record WorkedLogs : Type 0 where
  pub calls : calls_of 0 worked_history ≡ zeroth_event ∷ second_event ∷ fifth_event ∷ []
  pub no_calls : calls_of 2 worked_history ≡ []
  pub fits : FitsWorked 0 (looked (worked_survey 0) ∷ called 0 zeroth_event
      ∷ looked (worked_survey 1) ∷ looked (worked_survey 2) ∷ called 2 second_event
      ∷ called 5 fifth_event ∷ looked (worked_survey 7) ∷ [])
  pub empty_fits : FitsWorked 2 (looked (worked_survey 3) ∷ [])
  -- a call is left out
  pub too_few : ¬ FitsWorked 0 (called 0 zeroth_event ∷ called 2 second_event ∷ [])
  -- a call of another seat
  pub anothers : ¬ FitsWorked 0 (called 0 zeroth_event ∷ called 1 first_event
      ∷ called 2 second_event ∷ called 5 fifth_event ∷ [])
  -- a call at another place
  pub misplaced : ¬ FitsWorked 0
      (called 0 zeroth_event ∷ called 3 second_event ∷ called 5 fifth_event ∷ [])
  -- a survey that does not include the call before it
  pub too_early : ¬ FitsWorked 0 (called 0 zeroth_event ∷ looked (worked_survey 0)
      ∷ called 2 second_event ∷ called 5 fifth_event ∷ [])
  -- a call from before the survey before it
  pub too_late : ¬ FitsWorked 0 (looked (worked_survey 1) ∷ called 0 zeroth_event
      ∷ called 2 second_event ∷ called 5 fifth_event ∷ [])
  -- a survey that goes back
  pub goes_back : ¬ FitsWorked 2 (looked (worked_survey 3) ∷ looked (worked_survey 2) ∷ [])
  -- a survey past the end
  pub past_the_end : ¬ FitsWorked 2 (looked (worked_survey 8) ∷ [])
  -- a survey of another ring
  pub of_another : ¬ FitsWorked 2 (looked (seen 1 2 0 1 3) ∷ [])
