-- The worked history computes to what its statements say; a log that does not fit breaks one of the demands.
use Rattle.std.proofs.Common.{◌≡◌, ℕ, ◌≤◌, List, [], ◌∷◌, length, refl, ap, arith}
use Rattle.std.specs.Prelude.{Option, Some, None}
use Rattle.ring_model.specs.Runs.{GoesRoundFrom}
use Rattle.ring_model.specs.Logs.{IsFollowed}
use Rattle.ring_model.specs.Resources.{till}
use Rattle.ring_model.specs.Worked.{worked_start, worked_history, worked_survey, zeroth_event, first_event, second_event, fifth_event, seen, called, looked, FitsWorked, WorkedPlaces, WorkedGrants, WorkedLogs}
use Rattle.ring_model.specs.declared.events.Event.{Event}
use Rattle.ring_model.specs.declared.events.Survey.{Survey}

pub worked_places : WorkedPlaces
worked_places = record {
  legal = (
    (omega arith, refl, refl, refl, refl),
    (
      (omega arith, refl, refl),
      (
        (omega arith, refl, refl, refl, refl),
        (
          (omega arith, omega arith, refl, refl),
          ((omega arith, refl, refl, refl, refl), ((omega arith, refl, refl, refl, refl), ((omega arith, refl, refl, refl, refl), tt))),
        ),
      ),
    ),
  );
  last = refl;
  at_start = refl;
  after_one = refl;
  settled = refl;
  corrupted = refl;
  again = refl;
  at_end = refl;
}

goes_back_round : GoesRoundFrom 3 2 (2 ∷ 1 ∷ []) → ⊥
goes_back_round g = let h : ◌≡◌ {A = ℕ} 1 0 = g.1.0 in omega arith

pub worked_grants : WorkedGrants
worked_grants = record {
  machines = refl;
  of_zero = refl;
  of_one = refl;
  of_two = refl;
  run = refl;
  round = (refl, (refl, tt));
  not_back = goes_back_round;
  settled_of_zero = refl;
  settled_of_one = refl;
  settled_of_two = refl;
}

no_too_few : FitsWorked 0 (called 0 zeroth_event ∷ called 2 second_event ∷ []) → ⊥
no_too_few f = let h : ◌≡◌ {A = ℕ} 2 3 = ap (λ (es : List Event). length es) f.calls in omega arith

no_anothers : FitsWorked 0 (called 0 zeroth_event ∷ called 1 first_event ∷ called 2 second_event ∷ called 5 fifth_event ∷ []) → ⊥
no_anothers f = let h : ◌≡◌ {A = ℕ} 4 3 = ap (λ (es : List Event). length es) f.calls in omega arith

-- the seat of an event, where there is one
abbrev seat_of : Option Event → ℕ
seat_of None = 9
seat_of (Some e) = e.seat

no_misplaced : FitsWorked 0 (called 0 zeroth_event ∷ called 3 second_event ∷ called 5 fifth_event ∷ []) → ⊥
no_misplaced f =
    let rest : IsFollowed till worked_start worked_history 1 (called 3 second_event ∷ called 5 fifth_event ∷ []) = f.entries.2 in
    let h : ◌≡◌ {A = ℕ} 1 0 = ap (λ (o : Option Event). seat_of o) rest.1 in
    omega arith

no_too_early : FitsWorked 0 (called 0 zeroth_event ∷ looked (worked_survey 0) ∷ called 2 second_event ∷ called 5 fifth_event ∷ []) → ⊥
no_too_early f = let h : 1 ≤ 0 = f.entries.2.0 in omega arith

no_too_late : FitsWorked 0 (looked (worked_survey 1) ∷ called 0 zeroth_event ∷ called 2 second_event ∷ called 5 fifth_event ∷ []) → ⊥
no_too_late f = let h : 1 ≤ 0 = f.entries.2.0 in omega arith

no_goes_back : FitsWorked 2 (looked (worked_survey 3) ∷ looked (worked_survey 2) ∷ []) → ⊥
no_goes_back f = let h : 3 ≤ 2 = f.entries.2.0 in omega arith

no_past_the_end : FitsWorked 2 (looked (worked_survey 8) ∷ []) → ⊥
no_past_the_end f = let h : 8 ≤ 7 = f.entries.1.0 in omega arith

no_of_another : FitsWorked 2 (looked (seen 1 2 0 1 3) ∷ []) → ⊥
no_of_another f = let h : ◌≡◌ {A = ℕ} 0 1 = ap (λ (s : Survey). s.first) f.entries.1.1 in omega arith

pub worked_logs : WorkedLogs
worked_logs = record {
  calls = refl;
  no_calls = refl;
  fits = record {
    calls = refl;
    entries = (
      omega arith,
      (omega arith, refl, refl),
      (
        omega arith,
        refl,
        (
          omega arith,
          (omega arith, refl, refl),
          (
            omega arith,
            (omega arith, refl, refl),
            (omega arith, refl, (omega arith, refl, (omega arith, (omega arith, refl, refl), tt))),
          ),
        ),
      ),
    );
  };
  empty_fits = record { calls = refl; entries = (omega arith, (omega arith, refl, refl), tt) };
  too_few = no_too_few;
  anothers = no_anothers;
  misplaced = no_misplaced;
  too_early = no_too_early;
  too_late = no_too_late;
  goes_back = no_goes_back;
  past_the_end = no_past_the_end;
  of_another = no_of_another;
}
