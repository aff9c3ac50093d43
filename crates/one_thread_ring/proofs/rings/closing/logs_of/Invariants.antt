use Rattle.std.proofs.Common.{◌≡◌, ◌≤◌, vec_len, vec_capacity, length, take}
use Rattle.one_thread_ring.specs.Clients.{told_all}
use Rattle.one_thread_ring.specs.Rings.{AreLogsOf}
use Rattle.one_thread_ring.proofs.rings.closing.logs_of.Given as goal

abbrev pub invariant-loop-client : goal.invariant-loop-client
invariant-loop-client l = record {
  count : vec_len l.logs ≡ l.client-index;
  room : length l.clients ≤ vec_capacity l.logs;
  logs_of : AreLogsOf (told_all l.history (take l.client-index l.clients)) l.logs.items;
}
