use Rattle.std.proofs.Common.{◌≤◌, vec_capacity}
use Rattle.one_thread_ring.proofs.Gathering.{AreToldTo}
use Rattle.one_thread_ring.proofs.resuming.surveys.clients_of.Given as goal

abbrev pub invariant-loop-number : goal.invariant-loop-number
invariant-loop-number l = record {
  told : AreToldTo l.lines l.clients.items l.number l.place;
  room : l.seats ≤ vec_capacity l.clients;
}
