use Rattle.std.proofs.Common.{◌≡◌, ◌++◌, map, drop}
use Rattle.saved_history.specs.Content.{block_of}
use Rattle.chain_readers.specs.Known.{known}
use Rattle.chain_readers.specs.Chains.{parts_of, started, locks_opened}
use Rattle.chain_readers.proofs.chains.open_more.Given as goal

abbrev pub invariant-loop-i : goal.invariant-loop-i
invariant-loop-i l = map known l.locks.items ++ map started (drop l.i (parts_of l.bases (map block_of l.rings))) ≡ locks_opened (map known l.initial.locks.items) (parts_of l.bases (map block_of l.rings))
