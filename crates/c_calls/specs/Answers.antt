-- The answers of calls on the ring that C holds: the clauses of a ring without end, or of one on one
-- thread over a resource that does no work (this project's own).
use Rattle.std.specs.Prelude.{◌≡◌, ℕ, ◌+◌, List, [], ◌∷◌, length, drop, slice_get, Option, Result, Ok, Err, IfOk, OnErr}
use Rattle.ring_model.specs.History.{Works, opening}
use Rattle.ring_model.specs.HistoryLaws.{Settlement}
use Rattle.ring_model.specs.Surveys.{survey_at}
use Rattle.ring_model.specs.declared.events.Event.{Event}
use Rattle.ring_model.specs.declared.events.Op.TheVariants as op
use Rattle.ring_model.specs.declared.events.Receipt.{Receipt}
use Rattle.ring_model.specs.declared.events.Survey.{Survey}
use Rattle.ring_model.specs.declared.events.Entry.TheVariants as entry
use Rattle.ring_book.specs.BookView.{IsRecorded}
use Rattle.ring_book.specs.GroupView.{IsGroupRecorded}
use Rattle.ring_book.specs.IdleWorks.{idle}
use Rattle.ring_book.specs.declared.books.groups.GroupReceipt.{GroupReceipt}
use Rattle.ring_logs.specs.Seats.{receipts_from}
use Rattle.one_thread_ring.specs.Rings.{RingView, IsOneThreadRing, IsTried, told_more}
use Rattle.one_thread_ring.specs.Refusals.{IsDecided, bounds_of, seat_refusal, pass_refusal, try_refusal, corrupt_refusal, group_refusal}
use Rattle.saved_history.specs.Spelling.{text as spelled, Fits}
use Rattle.one_thread_ring.specs.Texts.{saved_alone, IsTextOf}
use Rattle.one_thread_ring.specs.declared.errors.CallError.{CallError}
use Rattle.endless_ring.specs.Endless.{survey_now}
use Rattle.endless_ring.specs.Calls as files
use Rattle.c_calls.specs.Reports.{grant_in, HasNoSize}
use Rattle.c_calls.specs.declared.kept.Kept.{Kept}
use Rattle.c_calls.specs.declared.kept.Kept.TheVariants.{Till, Idle}
use Rattle.c_calls.specs.declared.codes.TextError.{TextError}
use Rattle.c_calls.specs.declared.codes.TextError.TheVariants as text

-- A pass by a seat: at Ok it was recorded, and the seat's log has its receipt too; a refusal is the
-- first that applies, and leaves the ring as it was.
pub record IsPassed {C : Type 0} (w : Works C) (first : C) (d e : RingView C)
    (seat machine order : ℕ) (answer : Result Receipt CallError) : Type 0 where
  pub ok : IfOk answer (λ r. IsRecorded w d.book e.book seat (op.Pass machine order) r)
  pub told : IfOk answer (λ r. e.clients ≡ told_more d.clients seat (entry.Receipt r ∷ []))
  pub ring : IsOneThreadRing w first e
  pub settlement : Settlement w (opening e.book.start first) e.book.history
  pub same : OnErr answer (e ≡ d)
  pub refused : IsDecided (pass_refusal (bounds_of d) seat machine) answer

-- A try by a seat: a pass if the machine is privileged, and else nothing changes.
pub record IsTriedBy {C : Type 0} (w : Works C) (first : C) (d e : RingView C)
    (seat machine order : ℕ) (answer : Result (Option Receipt) CallError) : Type 0 where
  pub ok : IfOk answer (λ r. IsTried w d e seat machine order r)
  pub ring : IsOneThreadRing w first e
  pub same : OnErr answer (e ≡ d)
  pub refused : IsDecided (try_refusal (bounds_of d) seat machine) answer

-- A fault by a seat, in the same way.
pub record IsCorrupted {C : Type 0} (w : Works C) (first : C) (d e : RingView C)
    (seat machine value : ℕ) (answer : Result Receipt CallError) : Type 0 where
  pub ok : IfOk answer (λ r. IsRecorded w d.book e.book seat (op.Corrupt machine value) r)
  pub told : IfOk answer (λ r. e.clients ≡ told_more d.clients seat (entry.Receipt r ∷ []))
  pub ring : IsOneThreadRing w first e
  pub same : OnErr answer (e ≡ d)
  pub refused : IsDecided (corrupt_refusal (bounds_of d) seat machine value) answer

-- A group pass by a seat: at Ok it was recorded as one block, and the seat's log has the receipt of
-- each member too.
pub record IsGrouped {C : Type 0} (w : Works C) (first : C) (d e : RingView C) (seat : ℕ)
    (machines : List ℕ) (order : ℕ) (answer : Result GroupReceipt CallError) : Type 0 where
  pub ok : IfOk answer (λ r. IsGroupRecorded w d.book e.book seat order machines r)
  pub told : IfOk answer (λ r.
      e.clients ≡ told_more d.clients seat (receipts_from r.first (drop r.first e.book.history)))
  pub ring : IsOneThreadRing w first e
  pub same : OnErr answer (e ≡ d)
  pub refused : IsDecided (group_refusal (bounds_of d) seat machines) answer

-- the survey of the one-thread ring at the end of the history
abbrev pub survey_of : {C : Type 0} → Works C → C → RingView C → Survey
survey_of w first d =
    survey_at w (opening d.book.start first) d.book.history (length d.book.history)

-- A survey by a seat, by which its log has grown.
pub record IsSurveyed {C : Type 0} (w : Works C) (first : C) (d e : RingView C) (seat : ℕ)
    (answer : Result Survey CallError) : Type 0 where
  pub ok : IfOk answer (λ s. s ≡ survey_of w first d)
  pub told : IfOk answer (λ s. e.clients ≡ told_more d.clients seat (entry.Survey s ∷ []))
  pub book : e.book ≡ d.book
  pub ring : IsOneThreadRing w first e
  pub same : OnErr answer (e ≡ d)
  pub refused : IsDecided (seat_refusal (bounds_of d) seat) answer

-- A pass of what C holds: the resource stays.
abbrev pub IsPassAnswer : Kept → Kept → ℕ → ℕ → ℕ → Result Receipt CallError → Type 0
IsPassAnswer (Till d) (Till e) seat machine order answer =
    files.IsPassed d e seat machine order answer
IsPassAnswer (Idle d) (Idle e) seat machine order answer =
    IsPassed idle (record {}) d e seat machine order answer
IsPassAnswer _ _ seat machine order answer = ⊥

-- A try of what C holds, in the same way.
abbrev pub IsTryAnswer : Kept → Kept → ℕ → ℕ → ℕ → Result (Option Receipt) CallError → Type 0
IsTryAnswer (Till d) (Till e) seat machine order answer =
    files.IsTriedBy d e seat machine order answer
IsTryAnswer (Idle d) (Idle e) seat machine order answer =
    IsTriedBy idle (record {}) d e seat machine order answer
IsTryAnswer _ _ seat machine order answer = ⊥

-- A fault of what C holds.
abbrev pub IsCorruptAnswer : Kept → Kept → ℕ → ℕ → ℕ → Result Receipt CallError → Type 0
IsCorruptAnswer (Till d) (Till e) seat machine value answer =
    files.IsCorrupted d e seat machine value answer
IsCorruptAnswer (Idle d) (Idle e) seat machine value answer =
    IsCorrupted idle (record {}) d e seat machine value answer
IsCorruptAnswer _ _ seat machine value answer = ⊥

-- A group pass of what C holds.
abbrev pub IsGroupAnswer : Kept → Kept → ℕ → List ℕ → ℕ → Result GroupReceipt CallError → Type 0
IsGroupAnswer (Till d) (Till e) seat machines order answer =
    files.IsGroupedBy d e seat machines order answer
IsGroupAnswer (Idle d) (Idle e) seat machines order answer =
    IsGrouped idle (record {}) d e seat machines order answer
IsGroupAnswer _ _ seat machines order answer = ⊥

-- A survey of what C holds, which the seat's log keeps.
abbrev pub IsSurveyAnswer : Kept → Kept → ℕ → Result Survey CallError → Type 0
IsSurveyAnswer (Till d) (Till e) seat answer = files.IsSurveyedBy d e seat answer
IsSurveyAnswer (Idle d) (Idle e) seat answer = IsSurveyed idle (record {}) d e seat answer
IsSurveyAnswer _ _ seat answer = ⊥

-- The same survey, which nothing keeps: over all segments for a ring over a till.
abbrev pub IsGlance : Kept → Survey → Type 0
IsGlance (Till d) s = s ≡ survey_now d.ring
IsGlance (Idle d) s = s ≡ survey_of idle (record {}) d

-- how many events there were, over all segments
abbrev pub events_of : Kept → ℕ
events_of (Till d) = d.ring.base.events + length d.ring.ring.book.history
events_of (Idle d) = length d.book.history

-- how many of them are before this one
abbrev pub before_of : Kept → ℕ
before_of (Till d) = d.ring.base.events
before_of (Idle d) = 0

-- the event of this number, over all segments, if it is in this one
abbrev pub event_of : Kept → ℕ → Option Event
event_of (Till d) number = files.event_at d number
event_of (Idle d) number = slice_get d.book.history number

-- the grant of the first member of a group that passed: its number, and the resource's answer
abbrev pub first_grant : Kept → Result GroupReceipt CallError → ℕ × ℕ
first_grant k (Ok r) = grant_in (event_of k r.first)
first_grant k (Err e) = (0, 0)

-- The bytes are the saved text of the ring, which is legal, and each number of it is one that a text
-- may have.
pub record IsSavedText (d : RingView ℕ) (bytes : List ℕ) : Type 0 where
  pub text : IsTextOf d bytes
  pub fits : Fits (saved_alone d)

-- The saved text of the segment of a ring over a till; there is none of a ring that is over no till,
-- and for one of 2^64 - 1 bytes or more there is no memory.
abbrev pub IsTextAnswer : Kept → Result (List ℕ) TextError → Type 0
IsTextAnswer (Till d) (Ok bytes) = IsSavedText d.ring.ring bytes
IsTextAnswer (Till d) (Err text.OutOfMemory) = HasNoSize (spelled (saved_alone d.ring.ring))
IsTextAnswer (Idle d) (Err text.NoTill) = Unit {0}
IsTextAnswer _ _ = ⊥
