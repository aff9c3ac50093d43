use Rattle.std.proofs.Common.{◌≡◌, ℕ, ◌+◌, ◌<◌, List, length, arith}
use Rattle.ring_repairs.specs.Studies.{trial_passes}
use Rattle.ring_repairs.proofs.Joining.{none_on, one_on}
use Rattle.ring_repairs.proofs.trials.count_trials.Goals as goal

pub loop-turn-init : goal.loop-turn-init
loop-turn-init c = record { size = c.requires.size; counted = none_on (trial_passes c.args.study.now) c.args.first c.args.passes.now }

pub loop-turn-preserved : goal.loop-turn-preserved
loop-turn-preserved c =
    let on = c.loop-turn.invariant.counted in
    let few = c.try_one-number.ensures.few in
    let numbers' = c.requires.numbers in
    let long = on.numbers in
    record {
      size = c.try_one-number.ensures.size;
      counted =
          one_on (trial_passes c.args.study.now) c.args.first c.loop-turn.turn c.try_one-number.result c.args.passes.now c.loop-turn.passes c.add.new.self on
          c.try_one-number.ensures.passes (omega arith) c.add.ensures;
    }
