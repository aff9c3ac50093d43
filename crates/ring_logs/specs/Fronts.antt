-- How a log is followed along a history, entry by entry.
use Rattle.std.specs.Prelude.{◌≡◌, ℕ, ◌+◌, ◌≤◌, Bool, true, false, List, [], ◌∷◌, Some, slice_get, length}
use Rattle.std.specs.List.{count_by}
use Rattle.ring_model.specs.History.{Works, State}
use Rattle.ring_model.specs.Logs.{IsSurvey, calls_of}
use Rattle.ring_model.specs.declared.events.Event.{Event}
use Rattle.ring_model.specs.declared.events.Receipt.{Receipt}
use Rattle.ring_model.specs.declared.events.Survey.{Survey}
use Rattle.ring_model.specs.declared.events.Entry.{Entry}
use Rattle.ring_model.specs.declared.events.Entry.TheVariants as entry

-- the front of an entry: the first place that it does not know of
abbrev pub front_of : Entry → ℕ
front_of (entry.Receipt r) = r.position + 1
front_of (entry.Survey s) = s.position

-- the receipt's event is the seat's, and is at its position, which is at least the front
abbrev pub IsReceiptFrom : List Event → ℕ → ℕ → Receipt → Type 0
IsReceiptFrom h seat front r =
    (front ≤ r.position) × (slice_get h r.position ≡ Some r.event) × (r.event.seat ≡ seat)

-- the survey is right at its position, which is at least the front
abbrev pub IsSurveyFrom : {C : Type 0} → Works C → State C → List Event → ℕ → Survey → Type 0
IsSurveyFrom w a h front s = (front ≤ s.position) × IsSurvey w a h s

-- the entry does not go back before the front, and a receipt is right; the content of a survey is
-- another matter
abbrev pub IsPlacedFrom : List Event → ℕ → ℕ → Entry → Type 0
IsPlacedFrom h seat front (entry.Receipt r) = IsReceiptFrom h seat front r
IsPlacedFrom h seat front (entry.Survey s) = front ≤ s.position

-- so it is with each entry, from this front on
abbrev pub ArePlaced : List Event → ℕ → ℕ → List Entry → Type 0
ArePlaced h seat front [] = Unit {0}
ArePlaced h seat front (e ∷ log) = IsPlacedFrom h seat front e × ArePlaced h seat (front_of e) log

-- how many entries are receipts
abbrev pub is_receipt : Entry → Bool
is_receipt (entry.Receipt r) = true
is_receipt (entry.Survey s) = false

abbrev pub receipt_count : List Entry → ℕ
receipt_count log = count_by is_receipt log

-- the log is placed from the start, with as many receipts as the seat has calls
abbrev pub IsPlaced : List Event → ℕ → List Entry → Type 0
IsPlaced h seat log = ArePlaced h seat 0 log × (receipt_count log ≡ length (calls_of seat h))

-- the surveys of a log
abbrev pub surveys_of : List Entry → List Survey
surveys_of [] = []
surveys_of (entry.Receipt r ∷ log) = surveys_of log
surveys_of (entry.Survey s ∷ log) = s ∷ surveys_of log
