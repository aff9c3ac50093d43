use Rattle.std.proofs.Common.{◌≡◌, List, length, sym, ◌∙◌, ap, arith}
use Rattle.ring_model.specs.Ring.{privileged_count, weight}
use Rattle.ring_check.specs.Gauges.{holders}
use Rattle.ring_check.proofs.gauge.Gauge.new.Goals as goal

pub returns-clause-gauge : goal.returns-clause-gauge
returns-clause-gauge c =
    let same = sym c.in_ok-from_slice.ensures.items in
    let n : length c.args.values.now ≡ length c.in_ok-from_slice.field-0.items = ap (λ (x : List _). length x) same in
    let some = c.requires.some in
    let few = c.requires.few in
    record {
      some = omega arith;
      few = omega arith;
      positive = c.requires.positive;
      privileged = c.privileged_count.ensures.value ∙ ap privileged_count same;
      weight = c.weight.ensures ∙ ap weight same;
      long = omega (arith, c.in_ok-holders.ensures.len, c.in_ok-holders.holders.ok.0);
      held = λ v l. c.in_ok-holders.ensures.held v l ∙ ap (λ s. holders s v) same;
    }
