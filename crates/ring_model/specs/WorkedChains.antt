-- The history that is worked by hand in ring_model as a chain of two segments, cut where the ring
-- has just settled; and a third segment after it.
use Rattle.std.specs.Prelude.{◌≡◌, ℕ, List, [], ◌∷◌, take}
use Rattle.ring_model.specs.Ring.{Ring, ring_with}
use Rattle.ring_model.specs.History.{opening}
use Rattle.ring_model.specs.Resources.{till}
use Rattle.ring_model.specs.Surveys.{survey_at}
use Rattle.ring_model.specs.Worked.{worked_history, zeroth_event, first_event, second_event, third_event, worked_survey, seen, called, looked, FitsWorked}
use Rattle.ring_model.specs.declared.events.Op.TheVariants.{Pass}
use Rattle.ring_model.specs.declared.events.Reply.TheVariants.{Granted}
use Rattle.ring_model.specs.declared.events.Event.{Event}
use Rattle.ring_model.specs.declared.events.Survey.{Survey}
use Rattle.ring_model.specs.declared.events.Entry.{Entry}
use Rattle.ring_model.specs.declared.bases.Base.{Base}
use Rattle.ring_model.specs.Bases.{no_base, is_quiet, shifted_survey, base_after}
use Rattle.ring_model.specs.Chains.{Segment, IsChainFrom, chain_history, AreLogs, chain_log, FitsAfter}
use Rattle.ring_model.specs.ChainLaws.{grant_numbers}

abbrev pub based : ℕ → ℕ → ℕ → ℕ → Base
based events grants amount calm = record {
  events = events;
  grants = grants;
  amount = amount;
  calm = calm;
}

abbrev pub segment : Base → Ring → List Event → Segment
segment b r h = record { base = b; start = r; history = h }

-- where the segments begin
abbrev pub worked_ring : Ring
worked_ring = ring_with 3 (0 ∷ 2 ∷ 0 ∷ [])

abbrev pub settled_ring : Ring
settled_ring = ring_with 3 (1 ∷ 2 ∷ 2 ∷ [])

abbrev pub last_ring : Ring
last_ring = ring_with 3 (2 ∷ 1 ∷ 1 ∷ [])

abbrev pub first_segment : Segment
first_segment = segment no_base worked_ring (zeroth_event ∷ first_event ∷ second_event ∷ [])

-- the second one numbers its grants from 1, and its till begins empty
abbrev pub settling_event : Event
settling_event = record { seat = 1; op = Pass 1 1; reply = Granted 1 1 }

abbrev pub next_event : Event
next_event = record { seat = 0; op = Pass 2 4; reply = Granted 2 5 }

abbrev pub last_event : Event
last_event = record { seat = 1; op = Pass 0 0; reply = Granted 3 5 }

abbrev pub second_segment : Segment
second_segment =
    segment (based 3 2 17 2) settled_ring
    (third_event ∷ settling_event ∷ next_event ∷ last_event ∷ [])

-- and so does the third one
abbrev pub later_event : Event
later_event = record { seat = 0; op = Pass 1 3; reply = Granted 1 3 }

abbrev pub third_segment : Segment
third_segment = segment (based 7 5 22 3) last_ring (later_event ∷ [])

abbrev pub worked_chain : List Segment
worked_chain = first_segment ∷ second_segment ∷ []

-- it is a chain, and its history is just that one
pub record WorkedChain : Type 0 where
  pub chained : IsChainFrom no_base worked_ring worked_chain
  pub history : chain_history worked_chain ≡ worked_history
  pub numbers : grant_numbers (chain_history worked_chain) ≡ 1 ∷ 2 ∷ 3 ∷ 4 ∷ 5 ∷ []
  pub cut : base_after no_base worked_ring first_segment.history ≡ based 3 2 17 2
  pub end : base_after (based 3 2 17 2) settled_ring second_segment.history ≡ based 7 5 22 3
  -- with its first segment deleted it is a chain after that segment's end
  pub remainder : IsChainFrom (based 3 2 17 2) settled_ring (second_segment ∷ [])
  -- no segment may be left out, and none may come twice
  pub not_first : ¬ IsChainFrom no_base worked_ring (second_segment ∷ [])
  pub not_twice : ¬ IsChainFrom no_base worked_ring (first_segment ∷ first_segment ∷ [])
  -- one grant more came before, another amount, another ring
  pub not_more_grants : ¬ IsChainFrom no_base worked_ring
      (first_segment ∷ segment (based 3 3 17 2) settled_ring [] ∷ [])
  pub not_another_amount : ¬ IsChainFrom no_base worked_ring
      (first_segment ∷ segment (based 3 2 18 2) settled_ring [] ∷ [])
  pub not_another_ring : ¬ IsChainFrom no_base worked_ring
      (first_segment ∷ segment (based 3 2 17 2) worked_ring [] ∷ [])

-- surveys of the second segment, and the same, shifted
abbrev pub survey_in_second : ℕ → Survey
survey_in_second place = survey_at till (opening settled_ring 0) second_segment.history place

abbrev pub shifted_in_second : ℕ → Survey
shifted_in_second place =
    shifted_survey second_segment.base (is_quiet (take place second_segment.history))
    (survey_in_second place)

-- the logs of seat 0, segment by segment
abbrev pub first_log : List Entry
first_log = called 0 zeroth_event ∷ called 2 second_event ∷ []

abbrev pub second_log : List Entry
second_log = looked (survey_in_second 0) ∷ called 2 next_event ∷ []

-- the calm before the second segment counts up to the corruption
pub record WorkedSurveys : Type 0 where
  pub local : survey_in_second 0 ≡ seen 0 1 1 0 0
  pub at_cut : shifted_in_second 0 ≡ seen 3 1 1 2 0
  pub corrupted : shifted_in_second 1 ≡ worked_survey 4
  pub at_end : shifted_in_second 4 ≡ worked_survey 7
  -- the logs fit their segments, and together the history
  pub logs : AreLogs 0 worked_chain (first_log ∷ second_log ∷ [])
  pub fits : FitsWorked 0 (chain_log worked_chain (first_log ∷ second_log ∷ []))
  -- and the second log fits the remainder if the first segment was deleted
  pub remainder : FitsAfter (based 3 2 17 2) settled_ring (chain_history (second_segment ∷ [])) 0
      (chain_log (second_segment ∷ []) (second_log ∷ []))
