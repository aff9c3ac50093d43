use Rattle.std.proofs.Common.{◌≤◌, arith}
use Rattle.ring_check.proofs.Gauging.{weight_few, times_le}
use Rattle.ring_check.proofs.gauge.Gauge.rest.Goals as goal

pub overflow_add-result : goal.overflow_add-result
overflow_add-result c =
    let few = c.requires.few in
    let a = weight_few c.args.self.now.values.items 1024 few in
    let w = c.requires.weight in
    let n : c.len.result ≤ 1024 = omega (arith, few, c.len.ensures, c.args.self.now.values.ok.0) in
    let m = times_le c.len.result 1024 c.lead.result n in
    let s = c.lead.ensures.small in
    omega arith
