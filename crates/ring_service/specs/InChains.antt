-- Answered calls in the history of a chain of segments (this project's own).
use Rattle.std.specs.Prelude.{◌≡◌, ℕ, ◌+◌, List, [], ◌∷◌, ◌++◌, length}
use Rattle.ring_model.specs.Ring.{Ring}
use Rattle.ring_model.specs.declared.events.Event.{Event}
use Rattle.ring_model.specs.declared.bases.Base.{Base}
use Rattle.ring_model.specs.Bases.{IsAmount, shifted}
use Rattle.ring_model.specs.Chains.{Segment, IsChainFrom, chain_history}
use Rattle.ring_service.specs.declared.answers.Answer.{Answer}
use Rattle.ring_service.specs.declared.answers.Answer.TheVariants as answer
use Rattle.ring_service.specs.Standings.{Standing}
use Rattle.ring_service.specs.Segments.{segment_of}
use Rattle.ring_service.specs.Turns.{answer_of}
use Rattle.ring_service.specs.Recovered.{HasEvents}

-- the answer to a call that made these events at this position: the reply in its event; of a group,
-- that position and how many events there are
abbrev pub IsReplyAt : ℕ → List Event → Answer → Type 0
IsReplyAt position es (answer.Block first count) = (first ≡ position) × (count ≡ length es)
IsReplyAt position es given = (e : Event) × (es ≡ e ∷ []) × (given ≡ answer_of e.reply)

-- These events are in a history that counts from this base on, and this is the answer to their call.
pub record IsAnsweredIn (b : Base) (h es : List Event) (given : Answer) : Type 0 where
  pub front : List Event
  pub back : List Event
  pub parts : h ≡ front ++ (es ++ back)
  pub told : IsReplyAt (b.events + length front) es given

-- Where the segment of a ring is one of a chain, the events of an answered call are in the history
-- of the chain, shifted, and the answer is the reply there.
abbrev pub CallsAreInChains : Type 0
CallsAreInChains =
    (b : Base) (r : Ring) (before more : List Segment) (old rings : List Standing) (ring : ℕ)
    (es : List Event) (given : Answer) (has : HasEvents old rings ring es given)
    → IsAmount b.amount → IsChainFrom b r (before ++ segment_of has.is ∷ more)
    → IsAnsweredIn b (chain_history (before ++ segment_of has.is ∷ more))
    (shifted has.was.base es) given
