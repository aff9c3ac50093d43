use Rattle.std.proofs.Common.{◌≡◌, ◌++◌, map, drop}
use Rattle.saved_history.specs.Content.{block_of}
use Rattle.chain_readers.specs.Joining.{without_events, opened}
use Rattle.chain_readers.proofs.rings.open_more.Given as goal

abbrev pub invariant-loop-i : goal.invariant-loop-i
invariant-loop-i l = map block_of l.rings.items ++ map without_events (drop l.i (map block_of l.next)) ≡ opened (map block_of l.initial.rings.items) (map block_of l.next)
