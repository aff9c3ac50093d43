use Rattle.std.proofs.Common.{◌≡◌, ◌<◌, true, length, arith}
use Rattle.ring_model.specs.Ring.{is_privileged, privileged_count}
use Rattle.ring_check.proofs.Gauging.{one_first}
use Rattle.ring_check.proofs.gauge.Gauge.only_privileged.Goals as goal

pub returns-then-is_privileged-clause-is : goal.returns-then-is_privileged-clause-is
returns-then-is_privileged-clause-is c =
    let s = c.args.self.now.values.items in
    let machine = c.if-self-eq0.machine in
    let on : is_privileged s machine ≡ true = cc (c.is_privileged.ensures, c.deref.ensures.value, c.if-is_privileged.true) in
    let one : privileged_count s ≡ 1 = omega (arith, c.requires.gauge.privileged, c.if-self-eq1.true) in
    let within : machine < length s = omega (arith, c.if-machine-n.true, c.len-n.ensures, c.args.self.now.values.ok.0) in
    one_first s machine one within on
