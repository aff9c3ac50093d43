use Rattle.std.proofs.Common.{List, ◌++◌, take}
use Rattle.std.specs.List.{flat_map}
use Rattle.chain_readers.specs.declared.holds.Hold.{Hold}
use Rattle.chain_readers.specs.Labels.{chosen_one, AreCounted}
use Rattle.chain_readers.proofs.labels.count_lock.Given as goal

abbrev pub invariant-loop-hold : goal.invariant-loop-hold
invariant-loop-hold l = (before : List Hold) → AreCounted l.initial.counts before → AreCounted l.counts (before ++ flat_map (chosen_one l.choice l.lock) (take l.hold-index l.holds))
