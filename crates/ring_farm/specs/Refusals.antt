-- Which refusal comes from where.
use Rattle.std.specs.Prelude.{◌≡◌, ◌⊎◌, Option, Some, None}
use Rattle.ring_book.specs.declared.events.BookError.{BookError}
use Rattle.ring_book.specs.declared.events.BookError.TheVariants as book
use Rattle.ring_shared.specs.declared.closing.CloseReason.{CloseReason}
use Rattle.ring_shared.specs.declared.closing.CloseReason.TheVariants as closing
use Rattle.ring_shared.specs.declared.rings.OpenReason.{OpenReason}
use Rattle.ring_shared.specs.declared.rings.OpenReason.TheVariants as reason
use Rattle.ring_farm.specs.declared.faults.FarmError.{FarmError}
use Rattle.ring_farm.specs.declared.faults.FarmError.TheVariants as farm

-- the first of two faults
abbrev pub first_of : Option FarmError → Option FarmError → Option FarmError
first_of (Some fault) found = Some fault
first_of None found = found

-- a book's refusal, as a farm reports it
abbrev pub told_as : BookError → FarmError
told_as book.HistoryFull = farm.HistoryFull
told_as book.OutOfMemory = farm.OutOfMemory

-- why a ring was not opened, as a farm reports it
abbrev pub told_of : OpenReason → FarmError
told_of reason.OutOfMemory = farm.OutOfMemory
told_of reason.NoSeat = farm.NoSeat

-- why a ring was not closed well, as a farm reports it
abbrev pub told_of_close : CloseReason → FarmError
told_of_close closing.SeatsMissing = farm.Mismatch
told_of_close closing.Mismatch = farm.Mismatch
told_of_close closing.OutOfMemory = farm.OutOfMemory

-- the reason for which a call of a ring is refused
abbrev pub IsCallFault : FarmError → Type 0
IsCallFault e = (e ≡ farm.HistoryFull) ⊎ (e ≡ farm.OutOfMemory)

-- the refusal that a seat meets
abbrev pub IsSeatFault : FarmError → Type 0
IsSeatFault e = (e ≡ farm.GateShut) ⊎ IsCallFault e
