use Rattle.std.proofs.Common.{arith}
use Rattle.ring_model.specs.Ring.{is_privileged}
use Rattle.ring_model.proofs.Below.{count_le}
use Rattle.std.specs.Prelude.{length}
use Rattle.ring_check.proofs.gauge.Gauge.privileged_count.Goals as goal

pub overflow_cast-result : goal.overflow_cast-result
overflow_cast-result c =
    let a = count_le (is_privileged c.args.self.now.values.items) (length c.args.self.now.values.items) in
    let b = c.requires.few in
    let p = c.requires.privileged in
    omega arith
