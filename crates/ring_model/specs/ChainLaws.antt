-- The laws of chains (this project's own). A chain may begin after any base with an amount that the
-- till can hold: so they hold of the remainder of a chain whose oldest segments were deleted.
use Rattle.std.specs.Prelude.{◌≡◌, ℕ, ◌+◌, ◌<◌, ◌≤◌, ◌^◌, List, [], ◌∷◌, ◌++◌, length, take}
use Rattle.ring_model.specs.Limits.{event_limit}
use Rattle.ring_model.specs.Ring.{Ring}
use Rattle.ring_model.specs.History.{opening, reply, after, IsLegal}
use Rattle.ring_model.specs.Resources.{till}
use Rattle.ring_model.specs.Surveys.{granted_count, calm}
use Rattle.ring_model.specs.Groups.{IsHistory}
use Rattle.ring_model.specs.Logs.{IsSurvey, Fits}
use Rattle.ring_model.specs.declared.events.Op.{Op}
use Rattle.ring_model.specs.declared.events.Reply.{Reply}
use Rattle.ring_model.specs.declared.events.Reply.TheVariants.{Granted, NotPrivileged, Corrupted}
use Rattle.ring_model.specs.declared.events.Event.{Event}
use Rattle.ring_model.specs.declared.events.Survey.{Survey}
use Rattle.ring_model.specs.declared.events.Entry.{Entry}
use Rattle.ring_model.specs.declared.bases.Base.{Base}
use Rattle.ring_model.specs.declared.tallies.Tally.{Tally}
use Rattle.ring_model.specs.Bases.{no_base, IsBase, IsAmount, state_from, shifted_reply, is_quiet, shifted_calm, shifted_survey, base_after}
use Rattle.ring_model.specs.Tallies.{empty_tally, tallied, base_with}
use Rattle.ring_model.specs.Chains.{Segment, IsChainFrom, chain_history, AreLogs, chain_log, IsSurveyAfter, FitsAfter}

-- the law of chains: the history of a chain is one of the one-thread ring, legal and whole
abbrev pub ChainsAreHistories : Type 0
ChainsAreHistories =
    (b : Base) (r : Ring) (ss : List Segment) → IsAmount b.amount → IsChainFrom b r ss
    → IsHistory till (state_from b r) (chain_history ss)

-- a segment continues those before it: its base counts their events and has their calm, and the
-- one-thread ring is after their history in the state with which the segment begins
pub record Continues (b : Base) (r : Ring) (before : List Segment) (s : Segment) : Type 0 where
  pub events : s.base.events ≡ b.events + length (chain_history before)
  pub state : after till (state_from b r) (chain_history before) ≡ state_from s.base s.start
  pub calm : s.base.calm
      ≡ shifted_calm b (is_quiet (chain_history before)) (calm (chain_history before))

-- each segment of a chain continues those before it
abbrev pub SegmentsContinue : Type 0
SegmentsContinue =
    (b : Base) (r : Ring) (before : List Segment) (s : Segment) (later : List Segment)
    → IsAmount b.amount → IsChainFrom b r (before ++ s ∷ later) → Continues b r before s

-- the remainder of a chain from a segment on, if those before it were deleted: a chain, to which
-- all laws of chains apply, with the last events of the history
pub record IsRemainder (before : List Segment) (s : Segment) (later : List Segment) : Type 0 where
  pub amount : IsAmount s.base.amount
  pub chain : IsChainFrom s.base s.start (s ∷ later)
  pub events : chain_history (before ++ s ∷ later)
      ≡ chain_history before ++ chain_history (s ∷ later)

abbrev pub RemaindersAreChains : Type 0
RemaindersAreChains =
    (b : Base) (r : Ring) (before : List Segment) (s : Segment) (later : List Segment)
    → IsAmount b.amount → IsChainFrom b r (before ++ s ∷ later) → IsRemainder before s later

-- the reply of a segment's ring to a call, shifted, is that of the one-thread ring after all
-- segments
abbrev pub RepliesAreRight : Type 0
RepliesAreRight =
    (b : Base) (r : Ring) (before : List Segment) (s : Segment) (o : Op)
    → IsAmount b.amount → IsChainFrom b r (before ++ s ∷ [])
    → shifted_reply s.base (reply till (after till (opening s.start 0) s.history) o)
    ≡ reply till (after till (state_from b r) (chain_history (before ++ s ∷ []))) o

-- the numbers of the grants, in order
abbrev pub and_number : Reply → List ℕ → List ℕ
and_number (Granted number result) numbers = number ∷ numbers
and_number NotPrivileged numbers = numbers
and_number (Corrupted old) numbers = numbers

abbrev pub grant_numbers : List Event → List ℕ
grant_numbers [] = []
grant_numbers (e ∷ es) = and_number e.reply (grant_numbers es)

-- each number is one more than the one before
abbrev pub RiseByOne : ℕ → List ℕ → Type 0
RiseByOne before [] = Unit {0}
RiseByOne before (number ∷ numbers) = (number ≡ before + 1) × RiseByOne number numbers

-- over all segments the numbers of the grants rise by one, without a gap
abbrev pub NumbersRise : Type 0
NumbersRise =
    (b : Base) (r : Ring) (ss : List Segment) → IsAmount b.amount → IsChainFrom b r ss
    → RiseByOne b.grants (grant_numbers (chain_history ss))

-- a survey that is right in its segment, shifted, is right in the history of the chain
abbrev pub SurveysAreRight : Type 0
SurveysAreRight =
    (b : Base) (r : Ring) (before : List Segment) (s : Segment) (later : List Segment) (v : Survey)
    → IsAmount b.amount → IsChainFrom b r (before ++ s ∷ later)
    → IsSurvey till (opening s.start 0) s.history v
    → IsSurveyAfter b r (chain_history (before ++ s ∷ later))
    (shifted_survey s.base (is_quiet (take v.position s.history)) v)

-- after no base such a survey is a survey of the history
abbrev pub SurveysFromStart : Type 0
SurveysFromStart =
    (r : Ring) (h : List Event) (v : Survey) → IsSurveyAfter no_base r h v
    → IsSurvey till (opening r 0) h v

-- the calm of a history is at least that of a part with which it ends
abbrev pub CalmIsAtLeast : Type 0
CalmIsAtLeast = (before h : List Event) → calm h ≤ calm (before ++ h)

-- the logs of a client that fit the segments, shifted, fit the history of the chain
abbrev pub LogsFit : Type 0
LogsFit =
    (b : Base) (r : Ring) (ss : List Segment) (seat : ℕ) (logs : List (List Entry))
    → IsAmount b.amount → IsChainFrom b r ss → AreLogs seat ss logs
    → FitsAfter b r (chain_history ss) seat (chain_log ss logs)

-- after no base such a log fits the history
abbrev pub LogsFromStart : Type 0
LogsFromStart =
    (r : Ring) (h : List Event) (seat : ℕ) (log : List Entry) → FitsAfter no_base r h seat log
    → Fits till (opening r 0) h seat log

-- the tally of a segment has its grants, the amount in its till, and whether it is quiet
pub record IsTallyOf (t : Tally) (r : Ring) (h : List Event) : Type 0 where
  pub grants : t.grants ≡ granted_count h
  pub amount : t.amount ≡ (after till (opening r 0) h).content
  pub quiet : t.quiet ≡ is_quiet h

abbrev pub TalliesAreRight : Type 0
TalliesAreRight =
    (r : Ring) (h : List Event) → IsLegal till (opening r 0) h
    → IsTallyOf (tallied empty_tally h) r h

-- from the base and the tally of a segment and the survey of its end, the base of the next
abbrev pub NextBasesAreRight : Type 0
NextBasesAreRight =
    (b : Base) (r : Ring) (h : List Event) (v : Survey) → IsLegal till (opening r 0) h
    → IsSurvey till (opening r 0) h v → v.position ≡ length h
    → base_with b (tallied empty_tally h) v ≡ base_after b r h

-- there is one as long as the number of events leaves room
abbrev pub BasesHaveRoom : Type 0
BasesHaveRoom =
    (b : Base) (r : Ring) (h : List Event) → IsBase b
    → (base_after b r h).events + event_limit < 2 ^ 64 → IsBase (base_after b r h)
