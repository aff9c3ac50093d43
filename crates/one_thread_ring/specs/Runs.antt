-- A right run: a closed ring whose saved text is right (this project's own).
use Rattle.std.specs.Prelude.{◌≡◌, ℕ, ◌≤◌, length, slice_get, Some}
use Rattle.std.specs.List.{All}
use Rattle.ring_model.specs.Limits.{machine_limit, value_limit, seat_limit}
use Rattle.ring_model.specs.Ring.{IsRing}
use Rattle.ring_model.specs.History.{opening}
use Rattle.ring_model.specs.Groups.{IsHistory}
use Rattle.ring_model.specs.Resources.{till}
use Rattle.ring_model.specs.Logs.{Fits}
use Rattle.ring_logs.specs.Seats.{AreOfSeats}
use Rattle.ring_logs.specs.declared.logs.Log.{Log}
use Rattle.ring_logs.specs.declared.outcomes.RingOutcome.{RingOutcome}

-- A ring of an allowed size. Its history is a legal and whole one of a one-thread ring over the
-- till from the start values and the amount 0, there are no more logs than the seats may be, they
-- are in the order of their seats' numbers, each event's seat is that of one of them, and each log
-- fits the history.
pub record IsRightRun (r : RingOutcome) : Type 0 where
  pub ring : IsRing r.book.start
  pub most_machines : length r.book.start.values ≤ machine_limit
  pub most : r.book.start.k ≤ value_limit
  pub legal_and_whole : IsHistory till (opening r.book.start 0) r.book.history
  pub few : length r.logs.items ≤ seat_limit
  pub by_number : (seat : ℕ) (l : Log) → slice_get r.logs.items seat ≡ Some l → l.seat ≡ seat
  pub seats : AreOfSeats (length r.logs.items) r.book.history
  pub fits : All
      (λ (l : Log). Fits till (opening r.book.start 0) r.book.history l.seat l.entries.items)
      r.logs.items
