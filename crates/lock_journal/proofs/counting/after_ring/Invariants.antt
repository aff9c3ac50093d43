use Rattle.std.proofs.Common.{◌≡◌, ◌-◌, take}
use Rattle.ring_service.proofs.Counting.{kept_count}
use Rattle.lock_journal.proofs.counting.after_ring.Given as goal

abbrev pub invariant-loop-client : goal.invariant-loop-client
invariant-loop-client l = l.more ≡ l.remaining - l.events - kept_count (take l.client-index l.clients)
