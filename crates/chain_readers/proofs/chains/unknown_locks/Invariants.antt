use Rattle.std.proofs.Common.{◌≡◌, map, take}
use Rattle.saved_history.specs.Content.{block_of}
use Rattle.chain_readers.specs.Known.{known}
use Rattle.chain_readers.specs.Chains.{unknown}
use Rattle.chain_readers.proofs.chains.unknown_locks.Given as goal

abbrev pub invariant-loop-ring : goal.invariant-loop-ring
invariant-loop-ring l = map known l.locks.items ≡ map unknown (map block_of (take l._ring-index l.rings))
