use Rattle.std.proofs.Common.{◌≤◌, vec_capacity}
use Rattle.one_thread_ring.specs.Clients.{AreNew}
use Rattle.one_thread_ring.proofs.rings.fresh_clients.Given as goal

abbrev pub invariant-loop-number : goal.invariant-loop-number
invariant-loop-number l = record {
  fresh : AreNew l.number l.clients.items;
  room : l.fn.count ≤ vec_capacity l.clients;
}
