-- The laws of settlement over a legal history with corruptions, at any two of its places with no
-- corruption between (closure and convergence of Dijkstra 1974 and Dolev 2000, chapter 2; the
-- numbers are this project's own).
use Rattle.std.specs.Prelude.{◌≡◌, ℕ, ◌+◌, ◌-◌, ◌<◌, ◌≤◌, true, List, length, take, drop}
use Rattle.ring_model.specs.Ring.{IsRing, first_privileged, is_settled, rest, bound}
use Rattle.ring_model.specs.Runs.{GoesRoundFrom, GoesRound}
use Rattle.ring_model.specs.History.{Works, State, after, IsLegal}
use Rattle.ring_model.specs.Surveys.{granted_count, corrupted_count, calm, survey_at}
use Rattle.ring_model.specs.Grants.{granted_machines, settled_grants_of}
use Rattle.ring_model.specs.declared.events.Event.{Event}

-- the events from place p on, up to place q
abbrev pub between : List Event → ℕ → ℕ → List Event
between h p q = drop p (take q h)

-- none of them is a corruption
abbrev pub NoCorruption : List Event → ℕ → ℕ → Type 0
NoCorruption h p q = corrupted_count (between h p q) ≡ 0

-- of a history h from a state a, with the work w of the resource
module _ {C : Type 0} (w : Works C) (a : State C) (h : List Event) where
  -- the values of the machines, and the rest, after the first p events
  abbrev pub values_at : ℕ → List ℕ
  values_at p = (after w a (take p h)).ring.values

  abbrev pub rest_at : ℕ → ℕ
  rest_at p = rest (after w a (take p h)).ring

  -- descent: from p to q the rest falls by at least the number of granted passes, down to 0
  abbrev pub Descends : Type 0
  Descends =
      (p q : ℕ) → p ≤ q → q ≤ length h → NoCorruption h p q
      → rest_at q ≤ rest_at p - granted_count (between h p q)

  -- one privilege: where the granted passes from p to q are as many as the rest at p, the ring is
  -- settled at q
  abbrev pub Settles : Type 0
  Settles =
      (p q : ℕ) → p ≤ q → q ≤ length h → NoCorruption h p q
      → rest_at p ≤ granted_count (between h p q) → is_settled (values_at q) ≡ true

  -- calm bounds the rest: it is at most the bound less the calm, and 0 where the calm has passed
  -- the bound
  abbrev pub CalmBoundsRest : Type 0
  CalmBoundsRest =
      (q : ℕ) → q ≤ length h → rest_at q ≤ bound (length a.ring.values) - calm (take q h)

  -- so the ring is settled wherever the calm has reached the bound
  abbrev pub CalmSettles : Type 0
  CalmSettles =
      (q : ℕ) → q ≤ length h → bound (length a.ring.values) ≤ calm (take q h)
      → is_settled (values_at q) ≡ true

  -- round: from a settled place p on the ring stays settled, and the granted passes begin at the
  -- privileged machine and go to the right neighbour each time
  abbrev pub StaysRound : Type 0
  StaysRound =
      (p q : ℕ) → p ≤ q → q ≤ length h → NoCorruption h p q → is_settled (values_at p) ≡ true
      → (is_settled (values_at q) ≡ true)
      × GoesRound (length a.ring.values) (granted_machines (between h p q))
      × GoesRoundFrom (length a.ring.values) (first_privileged (values_at p))
      (granted_machines (between h p q))

  -- fairness: in the settled run the granted passes of two machines differ by at most 1
  abbrev pub IsFair : Type 0
  IsFair =
      (i j : ℕ) → i < length a.ring.values → j < length a.ring.values
      → settled_grants_of w a i h ≤ settled_grants_of w a j h + 1

  -- the law of surveys: some machine is privileged, the rest is at most the bound less the calm,
  -- and where the calm has reached the bound one machine is privileged and the rest is 0
  abbrev pub SurveysTell : Type 0
  SurveysTell =
      (p : ℕ) → p ≤ length h
      → (1 ≤ (survey_at w a h p).privileged)
      × ((survey_at w a h p).privileged ≤ length a.ring.values)
      × ((survey_at w a h p).first < length a.ring.values)
      × ((survey_at w a h p).rest ≤ bound (length a.ring.values) - (survey_at w a h p).calm)
      × (bound (length a.ring.values) ≤ (survey_at w a h p).calm
      → ((survey_at w a h p).privileged ≡ 1) × ((survey_at w a h p).rest ≡ 0))

-- all of them together, for a caller that hands out a history
pub record Settlement {C : Type 0} (w : Works C) (a : State C) (h : List Event) : Type 0 where
  pub descends : Descends w a h
  pub settles : Settles w a h
  pub calm_bounds_rest : CalmBoundsRest w a h
  pub calm_settles : CalmSettles w a h
  pub stays_round : StaysRound w a h
  pub fair : IsFair w a h
  pub surveys_tell : SurveysTell w a h

-- Each of them holds of every history that is legal from a state with a ring, for every resource
-- with contents C.
abbrev pub HistoryDescent : Type 0 → Type 0
HistoryDescent C =
    (w : Works C) (a : State C) (h : List Event) → IsRing a.ring → IsLegal w a h → Descends w a h

abbrev pub HistorySettles : Type 0 → Type 0
HistorySettles C =
    (w : Works C) (a : State C) (h : List Event) → IsRing a.ring → IsLegal w a h
    → Settles w a h × CalmSettles w a h

abbrev pub HistoryCalm : Type 0 → Type 0
HistoryCalm C =
    (w : Works C) (a : State C) (h : List Event) → IsRing a.ring → IsLegal w a h
    → CalmBoundsRest w a h

abbrev pub HistoryRound : Type 0 → Type 0
HistoryRound C =
    (w : Works C) (a : State C) (h : List Event) → IsRing a.ring → IsLegal w a h → StaysRound w a h

abbrev pub HistoryFairness : Type 0 → Type 0
HistoryFairness C =
    (w : Works C) (a : State C) (h : List Event) → IsRing a.ring → IsLegal w a h → IsFair w a h

abbrev pub HistorySurveys : Type 0 → Type 0
HistorySurveys C =
    (w : Works C) (a : State C) (h : List Event) → IsRing a.ring → IsLegal w a h → SurveysTell w a h

-- at each place of a legal history is a ring with the same K and the same number of machines
abbrev pub HistoryKeepsRing : Type 0 → Type 0
HistoryKeepsRing C =
    (w : Works C) (a : State C) (h : List Event) → IsRing a.ring → IsLegal w a h → (p : ℕ)
    → p ≤ length h
    → ((after w a (take p h)).ring.k ≡ a.ring.k)
    × (length (values_at w a h p) ≡ length a.ring.values)
    × IsRing (after w a (take p h)).ring
