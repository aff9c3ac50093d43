use Rattle.std.proofs.Common.{◌≡◌}
use Rattle.ring_state.specs.Sizes.{size_of}
use Rattle.ring_repairs.specs.Studies.{trial_passes}
use Rattle.ring_repairs.specs.Parts.{IsCountedOn}
use Rattle.ring_repairs.proofs.trials.count_trials.Given as goal

abbrev pub invariant-loop-turn : goal.invariant-loop-turn
invariant-loop-turn l = record {
  size : size_of l.ring ≡ l.study.size;
  counted : IsCountedOn (trial_passes l.study) l.first l.turn l.initial.passes l.passes;
}
