use Rattle.std.proofs.Common.{ℕ, List, Option, ◌-◌, length}
use Rattle.held_locks.specs.Holding.{chain_count, AreChained}
use Rattle.held_locks.proofs.chains.add_ends.Given as goal

abbrev pub invariant-loop-next : goal.invariant-loop-next
invariant-loop-next l = (clients : List (Option ℕ)) → AreChained chain_count l.fn.next.items l.fn.previous.items clients → AreChained chain_count l.next.items l.previous.items clients

abbrev pub decreases-loop-next : goal.decreases-loop-next
decreases-loop-next l = chain_count - length l.next.items
