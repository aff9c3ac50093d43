use Rattle.std.proofs.Common.{◌≡◌, ◌≤◌, vec_len, vec_capacity, length}
use Rattle.ring_shared.specs.Closing.{AreLogsOf}
use Rattle.ring_shared.proofs.closing.into_logs.Given as goal

abbrev pub invariant-loop-seat : goal.invariant-loop-seat
invariant-loop-seat g l = record {
  count : vec_len l.logs ≡ length l.yielded;
  room : vec_len l.fn.seats ≤ vec_capacity l.logs;
  logs_of : AreLogsOf l.yielded l.logs.items;
}
