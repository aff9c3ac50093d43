use Rattle.std.proofs.Common.{◌≡◌, List, ◌++◌, map, drop}
use Rattle.chain_readers.specs.declared.holds.Hold.{Hold}
use Rattle.chain_readers.specs.Labels.{all_chosen, AreCounted}
use Rattle.chain_readers.proofs.labels.count_labels.Given as goal

abbrev pub invariant-loop-lock : goal.invariant-loop-lock
invariant-loop-lock l =
    (before : List Hold) × AreCounted l.counts before × (before ++ all_chosen l.choice l.lock (drop l.lock (map (λ v. v.items) l.locks)) ≡ all_chosen l.choice 0 (map (λ v. v.items) l.locks))
