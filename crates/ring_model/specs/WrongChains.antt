-- Laws of other chains, which do not hold: why a base has each of its numbers, and why each segment
-- has to begin where the one before it ends.
use Rattle.std.specs.Prelude.{◌≡◌, ◌+◌, ◌%◌, ◌^◌, List, [], ◌∷◌, ◌++◌, map}
use Rattle.ring_model.specs.Ring.{Ring}
use Rattle.ring_model.specs.History.{opening, after}
use Rattle.ring_model.specs.Resources.{till, add_order}
use Rattle.ring_model.specs.Groups.{IsHistory}
use Rattle.ring_model.specs.Logs.{IsSurvey}
use Rattle.ring_model.specs.declared.events.Reply.{Reply}
use Rattle.ring_model.specs.declared.events.Reply.TheVariants.{Granted, NotPrivileged, Corrupted}
use Rattle.ring_model.specs.declared.events.Event.{Event}
use Rattle.ring_model.specs.declared.events.Survey.{Survey}
use Rattle.ring_model.specs.declared.bases.Base.{Base}
use Rattle.ring_model.specs.Bases.{no_base, IsAmount, state_from, base_after}
use Rattle.ring_model.specs.Chains.{Segment, IsChainFrom, chain_history}

-- the history of a chain if replies were shifted in another way
abbrev pub history_by : (Base → Reply → Reply) → List Segment → List Event
history_by shift [] = []
history_by shift (s ∷ ss) =
    map (λ (e : Event). record { seat = e.seat; op = e.op; reply = shift s.base e.reply }) s.history
    ++ history_by shift ss

abbrev pub AreHistoriesBy : (Base → Reply → Reply) → Type 0
AreHistoriesBy shift =
    (b : Base) (r : Ring) (ss : List Segment) → IsAmount b.amount → IsChainFrom b r ss
    → IsHistory till (state_from b r) (history_by shift ss)

-- by a base that forgets the grants
abbrev pub without_grants : Base → Reply → Reply
without_grants b (Granted number result) = Granted number (add_order b.amount result)
without_grants b NotPrivileged = NotPrivileged
without_grants b (Corrupted old) = Corrupted old

-- with an amount that wraps at 64 bits
abbrev pub with_wrapped_amounts : Base → Reply → Reply
with_wrapped_amounts b (Granted number result) =
    Granted (b.grants + number) ((b.amount + result) % 2 ^ 64)
with_wrapped_amounts b NotPrivileged = NotPrivileged
with_wrapped_amounts b (Corrupted old) = Corrupted old

-- segments each of which begins one call late: after a call that no segment has
abbrev pub IsLateChainFrom : Base → Ring → List Segment → Type 0
IsLateChainFrom b r [] = Unit {0}
IsLateChainFrom b r (s ∷ ss) =
    (s.base ≡ b)
    × (s.start ≡ r)
    × IsHistory till (opening r 0) s.history
    × ((e : Event)
    × IsHistory till (opening r 0) (s.history ++ e ∷ [])
    × IsLateChainFrom (base_after b r (s.history ++ e ∷ []))
    (after till (opening r 0) (s.history ++ e ∷ [])).ring ss)

abbrev pub LateChainsAreHistories : Type 0
LateChainsAreHistories =
    (b : Base) (r : Ring) (ss : List Segment) → IsAmount b.amount → IsLateChainFrom b r ss
    → IsHistory till (state_from b r) (chain_history ss)

-- a chain with a gap: one of its segments is left out
abbrev pub GapsAreHistories : Type 0
GapsAreHistories =
    (b : Base) (r : Ring) (before : List Segment) (s : Segment) (later : List Segment)
    → IsAmount b.amount → IsChainFrom b r (before ++ s ∷ later)
    → IsHistory till (state_from b r) (chain_history (before ++ later))

-- a segment's survey with the segment's own calm
abbrev pub survey_with_own_calm : Base → Survey → Survey
survey_with_own_calm b s = record {
  position = b.events + s.position;
  privileged = s.privileged;
  first = s.first;
  calm = s.calm;
  rest = s.rest;
}

abbrev pub OwnCalmIsRight : Type 0
OwnCalmIsRight =
    (r : Ring) (before : List Segment) (s : Segment) (later : List Segment) (v : Survey)
    → IsChainFrom no_base r (before ++ s ∷ later) → IsSurvey till (opening s.start 0) s.history v
    → IsSurvey till (opening r 0) (chain_history (before ++ s ∷ later))
    (survey_with_own_calm s.base v)
