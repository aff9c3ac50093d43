-- Why there is no book with some events.
use Rattle.std.specs.Prelude.{◌<◌, List, length}
use Rattle.ring_model.specs.History.{Works, State}
use Rattle.ring_model.specs.Groups.{IsWhole}
use Rattle.ring_model.specs.Limits.{event_limit}
use Rattle.ring_model.specs.declared.events.Event.{Event}
use Rattle.ring_book.specs.BookHistory.{AreGiven, IsFirstWrong}
use Rattle.ring_book.specs.declared.books.histories.HistoryError.{HistoryError}
use Rattle.ring_book.specs.declared.books.histories.HistoryError.TheVariants.{WrongEvent, BrokenGroup, HistoryFull, OutOfMemory}

abbrev pub IsHistoryFault : {C : Type 0} → Works C → State C → List Event → HistoryError → Type 0
IsHistoryFault w a h (WrongEvent place) = IsFirstWrong w a h place
IsHistoryFault w a h BrokenGroup = AreGiven w a h × (IsWhole (length a.ring.values) h → ⊥)
IsHistoryFault w a h HistoryFull = event_limit < length h
IsHistoryFault w a h OutOfMemory = Unit {0}
