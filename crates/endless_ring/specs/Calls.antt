-- The calls of a ring whose segments are files (this project's own).
use Rattle.std.specs.Prelude.{◌≡◌, ℕ, ◌-◌, ◌++◌, nat_lt, cond, List, [], ◌∷◌, Option, None, Result, IfOk, OnErr}
use Rattle.std.specs.Prelude.{slice_get, option_map}
use Rattle.ring_model.specs.Resources.{till}
use Rattle.ring_model.specs.History.{opening}
use Rattle.ring_model.specs.HistoryLaws.{Settlement}
use Rattle.ring_model.specs.declared.events.Event.{Event}
use Rattle.ring_model.specs.declared.events.Op.TheVariants as op
use Rattle.ring_model.specs.declared.events.Receipt.{Receipt}
use Rattle.ring_model.specs.declared.events.Survey.{Survey}
use Rattle.ring_book.specs.declared.books.groups.GroupReceipt.{GroupReceipt}
use Rattle.one_thread_ring.specs.Refusals.{IsDecided, bounds_of, seat_refusal, pass_refusal, try_refusal, corrupt_refusal, group_refusal}
use Rattle.one_thread_ring.specs.declared.errors.CallError.{CallError}
use Rattle.ring_model.specs.Bases.{shifted_event}
use Rattle.endless_ring.specs.Endless.{IsCalled, IsTried, IsGrouped, IsSurveyed, local_survey}
use Rattle.endless_ring.specs.Files.{FilesView, Notes, IsFiled}

-- after a call that is not a survey: the ring is right, its file and its journal are as they were, and
-- after a refusal the ring is, too
pub record IsAfterCall {A : Type 0} (old new : FilesView) (answer : Result A CallError) : Type 0
  where
    pub filed : IsFiled new
    pub place : new.place ≡ old.place
    pub notes : new.notes ≡ old.notes
    pub same : OnErr answer (new ≡ old)

-- A pass by a seat: at Ok it was recorded, and the seat's log has its receipt too; the receipt counts
-- all segments. A refusal is the first that applies.
pub record IsPassed (old new : FilesView) (seat machine order : ℕ)
    (answer : Result Receipt CallError) : Type 0 where
  pub ok : IfOk answer (λ r. IsCalled old.ring new.ring seat (op.Pass machine order) r)
  pub settlement : Settlement till (opening new.ring.ring.book.start 0) new.ring.ring.book.history
  pub refused : IsDecided (pass_refusal (bounds_of old.ring.ring) seat machine) answer
  pub after : IsAfterCall old new answer

-- A try by a seat: a pass if the machine is privileged, and else nothing changes.
pub record IsTriedBy (old new : FilesView) (seat machine order : ℕ)
    (answer : Result (Option Receipt) CallError) : Type 0 where
  pub ok : IfOk answer (λ r. IsTried old.ring new.ring seat machine order r)
  pub refused : IsDecided (try_refusal (bounds_of old.ring.ring) seat machine) answer
  pub after : IsAfterCall old new answer

-- A fault by a seat, in the same way.
pub record IsCorrupted (old new : FilesView) (seat machine value : ℕ)
    (answer : Result Receipt CallError) : Type 0 where
  pub ok : IfOk answer (λ r. IsCalled old.ring new.ring seat (op.Corrupt machine value) r)
  pub refused : IsDecided (corrupt_refusal (bounds_of old.ring.ring) seat machine value) answer
  pub after : IsAfterCall old new answer

-- A group pass by a seat: at Ok it was recorded as one block, and the seat's log has the receipt of
-- each member too.
pub record IsGroupedBy (old new : FilesView) (seat : ℕ) (machines : List ℕ) (order : ℕ)
    (answer : Result GroupReceipt CallError) : Type 0 where
  pub ok : IfOk answer (λ r. IsGrouped old.ring new.ring seat order machines r)
  pub refused : IsDecided (group_refusal (bounds_of old.ring.ring) seat machines) answer
  pub after : IsAfterCall old new answer

-- the journal does not have a survey that a seat is given, if one is kept
abbrev pub with_survey : Notes → ℕ → Survey → Notes
with_survey n seat s = record {
  kept = n.kept;
  events = n.events;
  looked = cond n.kept (n.looked ++ record { seat = seat; survey = s } ∷ []) n.looked;
}

-- A survey by a seat, by which its log has grown: it counts all segments, the log and the journal by
-- the segment.
pub record IsSurveyedBy (old new : FilesView) (seat : ℕ) (answer : Result Survey CallError) : Type 0
  where
    pub ok : IfOk answer (λ s. IsSurveyed old.ring new.ring seat s)
    pub noted : IfOk answer (λ s.
        new.notes ≡ with_survey old.notes seat (local_survey old.ring.ring))
    pub filed : IsFiled new
    pub place : new.place ≡ old.place
    pub same : OnErr answer (new ≡ old)
    pub refused : IsDecided (seat_refusal (bounds_of old.ring.ring) seat) answer

-- the event of this number of all segments, if it is in this one; its reply counts all segments
abbrev pub event_at : FilesView → ℕ → Option Event
event_at d number =
    cond (nat_lt number d.ring.base.events) None
    (option_map (shifted_event d.ring.base)
    (slice_get d.ring.ring.book.history (number - d.ring.base.events)))
