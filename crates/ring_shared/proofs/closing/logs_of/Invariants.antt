use Rattle.std.proofs.Common.{◌≡◌, ◌≤◌, map, take, length, vec_capacity}
use Rattle.ring_shared.specs.Client.{told_of}
use Rattle.ring_shared.proofs.closing.logs_of.Given as goal

abbrev pub invariant-loop-seat : goal.invariant-loop-seat
invariant-loop-seat g l = (l.logs.items ≡ map told_of (take l.seat-index l.seats)) × (length l.seats ≤ vec_capacity l.logs)
