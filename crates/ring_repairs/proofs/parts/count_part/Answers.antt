use Rattle.std.proofs.Common.{◌≡◌, ◌+◌, ◌≤◌, List, length, arith}
use Rattle.ring_model.specs.RepairLaws.{longest_repair}
use Rattle.ring_repairs.specs.Studies.{trial_passes}
use Rattle.ring_repairs.proofs.Counting.{counted_none}
use Rattle.ring_repairs.proofs.Joining.{counted_alone}
use Rattle.ring_repairs.proofs.parts.count_part.Goals as goal

pub count_trials-requires-clause-room : goal.count_trials-requires-clause-room
count_trials-requires-clause-room c =
    let none = counted_none c.in_ok-passes.passes (λ v l. c.in_ok-passes.ensures.none.none v) in
    let most = c.count.ensures.study.most in
    let all' = c.requires in
    omega arith

pub returns : goal.returns
returns c =
    let on = c.count_trials.ensures.counted in
    let none = c.in_ok-passes.ensures.none in
    let numbers' = on.numbers in
    let empty = none.numbers in
    let s = c.args.study.now in
    record {
      within = c.requires;
      numbers = omega arith;
      counted =
          counted_alone (trial_passes s) c.args.first c.args.trials (longest_repair s.size.n + 1) c.in_ok-passes.passes c.count_trials.new.passes none on;
    }
