-- A ring over a till whose history is a chain of segments (this project's own).
use Rattle.std.specs.Prelude.{◌≡◌, ℕ, ◌+◌, Bool, true, false, List, [], ◌∷◌, ◌++◌, length, drop, Option, Some, None}
use Rattle.ring_model.specs.Ring.{Ring, is_privileged}
use Rattle.ring_model.specs.History.{opening, reply, after}
use Rattle.ring_model.specs.Resources.{till}
use Rattle.ring_model.specs.Surveys.{survey_at}
use Rattle.ring_model.specs.declared.events.Op.{Op}
use Rattle.ring_model.specs.declared.events.Op.TheVariants as op
use Rattle.ring_model.specs.declared.events.Receipt.{Receipt}
use Rattle.ring_model.specs.declared.events.Survey.{Survey}
use Rattle.ring_model.specs.declared.events.Entry.TheVariants as entry
use Rattle.ring_book.specs.BookView.{IsRecorded}
use Rattle.ring_book.specs.GroupView.{IsGroupRecorded}
use Rattle.ring_book.specs.declared.books.groups.GroupReceipt.{GroupReceipt}
use Rattle.ring_logs.specs.Seats.{receipts_from}
use Rattle.one_thread_ring.specs.Rings.{RingView, IsOneThreadRing, IsSameRing, AreFresh, told_more}
use Rattle.ring_model.specs.declared.bases.Base.{Base}
use Rattle.ring_model.specs.Bases.{IsBase, IsAmount, state_from, is_quiet, base_after, shifted_receipt, shifted_survey}
use Rattle.ring_model.specs.Chains.{Segment, IsChainFrom, chain_history, IsSurveyAfter}

-- the base of its segment, and the segment: a ring on one thread with its clients
pub record EndlessView : Type 0 where
  pub base : Base
  pub ring : RingView ℕ

-- The invariant of such a ring at every moment: its segment has room after its base, and is that of
-- a ring on one thread.
pub record IsEndless (e : EndlessView) : Type 0 where
  pub base : IsBase e.base
  pub ring : IsOneThreadRing till 0 e.ring

-- the same ring, room aside
pub record IsSameEndless (old new : EndlessView) : Type 0 where
  pub base : new.base ≡ old.base
  pub ring : IsSameRing old.ring new.ring

-- such a ring of whose segment it is known whether a corruption came
pub record IsKnown (b : Base) (q : Bool) (d : RingView ℕ) : Type 0 where
  pub is : IsEndless (record { base = b; ring = d })
  pub quiet : q ≡ is_quiet d.book.history

-- its segment
abbrev pub segment_of : EndlessView → Segment
segment_of e = record { base = e.base; start = e.ring.book.start; history = e.ring.book.history }

-- One call was recorded, in the segment and in the log of the client; the receipt is shifted.
pub record IsCalled (old new : EndlessView) (seat : ℕ) (op : Op) (r : Receipt) : Type 0 where
  pub local : Receipt
  pub recorded : IsRecorded till old.ring.book new.ring.book seat op local
  pub logged : new.ring.clients ≡ told_more old.ring.clients seat (entry.Receipt local ∷ [])
  pub shifted : r ≡ shifted_receipt old.base local
  pub base : new.base ≡ old.base

-- A try passes if the machine is privileged, and is that call; else nothing changes.
abbrev pub IsTried : EndlessView → EndlessView → ℕ → ℕ → ℕ → Option Receipt → Type 0
IsTried old new seat machine order (Some r) =
    (is_privileged old.ring.book.now.ring.values machine ≡ true)
    × IsCalled old new seat (op.Pass machine order) r
IsTried old new seat machine order None =
    (is_privileged old.ring.book.now.ring.values machine ≡ false) × (new ≡ old)

-- A group passed; the place of its block is shifted.
pub record IsGrouped (old new : EndlessView) (seat order : ℕ) (machines : List ℕ)
    (r : GroupReceipt) : Type 0 where
  pub local : GroupReceipt
  pub recorded : IsGroupRecorded till old.ring.book new.ring.book seat order machines local
  pub logged : new.ring.clients ≡ told_more old.ring.clients seat
      (receipts_from local.first (drop local.first new.ring.book.history))
  pub first : r.first ≡ old.base.events + local.first
  pub count : r.count ≡ local.count
  pub base : new.base ≡ old.base

-- the survey of the segment's end, and the same, shifted
abbrev pub local_survey : RingView ℕ → Survey
local_survey d = survey_at till (opening d.book.start 0) d.book.history (length d.book.history)

abbrev pub survey_now : EndlessView → Survey
survey_now e = shifted_survey e.base (is_quiet e.ring.book.history) (local_survey e.ring)

-- the client was given a survey, which is shifted
pub record IsSurveyed (old new : EndlessView) (seat : ℕ) (s : Survey) : Type 0 where
  pub shifted : s ≡ survey_now old
  pub logged : new.ring.clients
      ≡ told_more old.ring.clients seat (entry.Survey (local_survey old.ring) ∷ [])
  pub book : new.ring.book ≡ old.ring.book
  pub base : new.base ≡ old.base

-- its next segment: it begins where this one ends, and its clients' logs are empty
pub record IsNextRing (old new : EndlessView) : Type 0 where
  pub base : new.base ≡ base_after old.base old.ring.book.start old.ring.book.history
  pub start : new.ring.book.start ≡ old.ring.book.now.ring
  pub history : new.ring.book.history ≡ []
  pub clients : AreFresh (length old.ring.clients) new.ring.clients

-- the segments before it and its own are a chain
abbrev pub EndsChain : Base → Ring → List Segment → EndlessView → Type 0
EndsChain b r before e = IsChainFrom b r (before ++ segment_of e ∷ [])

-- Such a ring ends a chain whatever is called, since calls leave its base and its start; and its
-- next segment ends the chain that has this one too.
abbrev pub ChainsGrow : Type 0
ChainsGrow =
    (b : Base) (r : Ring) (before : List Segment) (old new : EndlessView) → IsEndless old
    → IsEndless new → EndsChain b r before old
    → ((new.base ≡ old.base) → (new.ring.book.start ≡ old.ring.book.start)
    → EndsChain b r before new)
    × (IsNextRing old new → EndsChain b r (before ++ segment_of old ∷ []) new)

-- The receipt of a call is that of the ring whose history is the chain: its reply is that of the
-- one-thread ring after the whole chain, and its position counts all events of it.
abbrev pub ReceiptsAreRight : Type 0
ReceiptsAreRight =
    (b : Base) (r : Ring) (before : List Segment) (old new : EndlessView) (seat : ℕ) (op : Op)
    (receipt : Receipt) → IsAmount b.amount → IsEndless old → EndsChain b r before old
    → IsCalled old new seat op receipt
    → (receipt.event.reply
    ≡ reply till (after till (state_from b r) (chain_history (before ++ segment_of old ∷ []))) op)
    × (receipt.position ≡ b.events + length (chain_history (before ++ segment_of old ∷ [])))

-- and its survey is right for that history
abbrev pub SurveysNowAreRight : Type 0
SurveysNowAreRight =
    (b : Base) (r : Ring) (before : List Segment) (e : EndlessView) → IsAmount b.amount
    → IsEndless e → EndsChain b r before e
    → IsSurveyAfter b r (chain_history (before ++ segment_of e ∷ [])) (survey_now e)
