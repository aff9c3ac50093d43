use Rattle.std.proofs.Common.{◌≡◌, ◌≤◌, ◌<◌, ◌+◌, ℕ, suc, drop, get_or, subst, arith}
use Rattle.std.proofs.lemmas.List.{drop_more}
use Rattle.ring_model.specs.Groups.{Rises}
use Rattle.ring_tests.proofs.groups.rises.Goals as goal

pub loop-machine-preserved : goal.loop-machine-preserved
loop-machine-preserved c =
    let ms = c.args.machines.now in
    let i = c.loop-machine.machine-index in
    let low : c.loop-machine.least ≤ get_or ms i 0 = omega arith in
    let high : get_or ms i 0 < c.args.limit = omega arith in
    let one : get_or ms i 0 + 1 ≡ suc (get_or ms i 0) = omega arith in
    λ r. c.loop-machine.invariant (rw (drop_more ms i 0 c.loop-machine-test.true) (low, high, subst (λ (x : ℕ). Rises x c.args.limit (drop (i + 1) ms)) one r))
