use Rattle.std.proofs.Common.{◌≡◌, ◌+◌, ◌≤◌, vec_len, vec_capacity}
use Rattle.held_locks.specs.Holding.{chain_count}
use Rattle.held_locks.proofs.Gathering.{IsGathered}
use Rattle.held_locks.proofs.chains.find.Given as goal

abbrev pub invariant-loop-more : goal.invariant-loop-more
invariant-loop-more l = record {
  gathered : IsGathered chain_count l.next.items l.clients.items l.client l.link l.more l.found.items;
  room : vec_len l.found + l.more ≤ vec_capacity l.found;
  capacity : vec_capacity l.found ≡ vec_capacity l.fn.found;
}

abbrev pub decreases-loop-more : goal.decreases-loop-more
decreases-loop-more l = l.more
