use Rattle.std.proofs.Common.{◌≡◌, map}
use Rattle.chain_readers.specs.Known.{known, all_holds}
use Rattle.chain_readers.proofs.chains.holds_of.Given as goal

abbrev pub invariant-loop-lock : goal.invariant-loop-lock
invariant-loop-lock l = map (λ v. v.items) l.found.items ≡ map all_holds (map known l.yielded)
