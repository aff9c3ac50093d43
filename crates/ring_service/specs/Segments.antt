-- The segments of served rings, one after the other (this project's own).
use Rattle.std.specs.Prelude.{◌≡◌, ℕ, ◌+◌, List, [], ◌∷◌, ◌++◌, length, map, slice_get, Some}
use Rattle.ring_model.specs.Ring.{Ring}
use Rattle.ring_model.specs.History.{reply, after}
use Rattle.ring_model.specs.Resources.{till}
use Rattle.ring_model.specs.declared.events.Op.{Op}
use Rattle.one_thread_ring.specs.Rings.{AreFresh}
use Rattle.ring_model.specs.declared.bases.Base.{Base}
use Rattle.ring_model.specs.Bases.{IsBase, IsAmount, state_from, base_after}
use Rattle.ring_model.specs.Chains.{Segment, IsChainFrom, chain_history, IsSurveyAfter}
use Rattle.ring_service.specs.Standings.{Standing, state_of, shifted_survey_now}
use Rattle.ring_service.specs.Saved.{IsRight}
use Rattle.ring_service.specs.Turns.{answer_of, called, grouped}
use Rattle.ring_service.specs.declared.answers.Answer.TheVariants as answer

-- the segment of a ring
abbrev pub segment_of : Standing → Segment
segment_of r = record { base = r.base; start = r.start; history = r.history }

-- what came before the segment of each ring
abbrev pub bases_of : List Standing → List Base
bases_of rings = map (λ (r : Standing). r.base) rings

-- the ring with its next segment, which begins where this one ends: it has no events yet, and the
-- clients' logs are empty
pub record IsNext (old new : Standing) : Type 0 where
  pub base : new.base ≡ base_after old.base old.start old.history
  pub start : new.start ≡ (state_of old).ring
  pub history : new.history ≡ []
  pub clients : AreFresh (length old.clients) new.clients

-- each of the rings, one by one
abbrev pub AreNext : List Standing → List Standing → Type 0
AreNext [] new = new ≡ []
AreNext (r ∷ rs) [] = ⊥
AreNext (r ∷ rs) (s ∷ ss) = IsNext r s × AreNext rs ss

-- a segment of the ring has room after its own
abbrev pub HasRoom : Standing → Type 0
HasRoom r = IsBase (base_after r.base r.start r.history)

-- no segment has room after that of one of the rings
abbrev pub IsFull : List Standing → Type 0
IsFull rings = (i : ℕ) × (r : Standing) × (slice_get rings i ≡ Some r) × ¬ HasRoom r

-- ---- laws: where the segments before a ring's and its own are a chain

abbrev pub EndsChain : Base → Ring → List Segment → Standing → Type 0
EndsChain b r before s = IsAmount b.amount × IsChainFrom b r (before ++ segment_of s ∷ [])

-- the ring with its next segment ends the chain that has this segment too
abbrev pub ChainsGrow : Type 0
ChainsGrow =
    (b : Base) (r : Ring) (before : List Segment) (old new : Standing) → IsRight old → IsRight new
    → EndsChain b r before old → IsNext old new → EndsChain b r (before ++ segment_of old ∷ []) new

-- The answer to a call that is not refused is the reply of the one-thread ring after the history of
-- the whole chain.
abbrev pub AnswersAreOfChains : Type 0
AnswersAreOfChains =
    (b : Base) (r : Ring) (before : List Segment) (s : Standing) (ring seat : ℕ) (o : Op)
    → EndsChain b r before s
    → (called ring s seat o).answer
    ≡ answer_of
    (reply till (after till (state_from b r) (chain_history (before ++ segment_of s ∷ []))) o)

-- The answer to a group counts all events of the chain.
abbrev pub BlocksAreOfChains : Type 0
BlocksAreOfChains =
    (b : Base) (r : Ring) (before : List Segment) (s : Standing) (ring seat order : ℕ)
    (machines : List ℕ) → EndsChain b r before s
    → (grouped ring s seat order machines).answer
    ≡ answer.Block (b.events + length (chain_history (before ++ segment_of s ∷ [])))
    (length machines)

-- The answer to a survey is right for the history of the whole chain.
abbrev pub SurveysAreOfChains : Type 0
SurveysAreOfChains =
    (b : Base) (r : Ring) (before : List Segment) (s : Standing) → IsRight s → EndsChain b r before s
    → IsSurveyAfter b r (chain_history (before ++ segment_of s ∷ [])) (shifted_survey_now s)
