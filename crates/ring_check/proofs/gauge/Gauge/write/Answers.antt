use Rattle.std.proofs.Common.{◌≡◌, ℕ, ◌-◌, ◌<◌, List, get_or, set, length, ap, subst, arith}
use Rattle.std.specs.Prelude.{vec_len}
use Rattle.std.proofs.lemmas.List.{length-set}
use Rattle.ring_model.specs.Ring.{right_neighbour, weight_at}
use Rattle.ring_check.specs.Gauges.{bit_of, both_of}
use Rattle.ring_check.proofs.Gauging.{count_new, weight_new, count_few, weight_few, old_held, lowered_few, held_new, held_zero, long_new}
use Rattle.ring_check.proofs.gauge.Gauge.write.Goals as goal

pub overflow_sub-self : goal.overflow_sub-self
overflow_sub-self c =
    let within : c.args.machine < vec_len c.args.self.now.values = c.requires.within in
    let lt : c.args.machine < length c.args.self.now.values.items = omega (arith, within, c.args.self.now.values.ok.0) in
    let before-privileged : c.share_of-before.result.privileged ≡ both_of (bit_of c.args.self.now.values.items) c.args.machine (right_neighbour c.args.self.now.values.items c.args.machine) =
    subst (λ (x : List ℕ). c.share_of-before.result.privileged ≡ both_of (bit_of x) c.args.machine (right_neighbour x c.args.machine)) c.deref.ensures.value c.share_of-before.ensures.privileged in
    let after-privileged : c.share_of-after.result.privileged ≡ both_of (bit_of (set c.args.self.now.values.items c.args.machine c.args.value)) c.args.machine (right_neighbour (set c.args.self.now.values.items c.args.machine c.args.value) c.args.machine) =
    subst (λ (x : List ℕ). c.share_of-after.result.privileged ≡ both_of (bit_of x) c.args.machine (right_neighbour x c.args.machine)) c.deref-2.ensures.value c.share_of-after.ensures.privileged in
    (count_new c.args.self.now.values.items c.args.machine c.args.value c.share_of-before.result.privileged c.share_of-after.result.privileged c.args.self.now.privileged lt before-privileged after-privileged c.requires.gauge.privileged).0

pub overflow_add-self : goal.overflow_add-self
overflow_add-self c =
    let few = c.requires.gauge.few in
    let p = count_few c.args.self.now.values.items in
    let q = c.requires.gauge.privileged in
    let two = c.share_of-after.ensures.two in
    omega arith

pub overflow_sub-self-2 : goal.overflow_sub-self-2
overflow_sub-self-2 c =
    let within : c.args.machine < vec_len c.args.self.now.values = c.requires.within in
    let lt : c.args.machine < length c.args.self.now.values.items = omega (arith, within, c.args.self.now.values.ok.0) in
    let before-weight : c.share_of-before.result.weight ≡ both_of (weight_at c.args.self.now.values.items) c.args.machine (right_neighbour c.args.self.now.values.items c.args.machine) =
    subst (λ (x : List ℕ). c.share_of-before.result.weight ≡ both_of (weight_at x) c.args.machine (right_neighbour x c.args.machine)) c.deref.ensures.value c.share_of-before.ensures.weight in
    let after-weight : c.share_of-after.result.weight ≡ both_of (weight_at (set c.args.self.now.values.items c.args.machine c.args.value)) c.args.machine (right_neighbour (set c.args.self.now.values.items c.args.machine c.args.value) c.args.machine) =
    subst (λ (x : List ℕ). c.share_of-after.result.weight ≡ both_of (weight_at x) c.args.machine (right_neighbour x c.args.machine)) c.deref-2.ensures.value c.share_of-after.ensures.weight in
    (weight_new c.args.self.now.values.items c.args.machine c.args.value c.share_of-before.result.weight c.share_of-after.result.weight c.args.self.now.weight lt before-weight after-weight c.requires.gauge.weight).0

pub overflow_add-self-2 : goal.overflow_add-self-2
overflow_add-self-2 c =
    let few = c.requires.gauge.few in
    let p = weight_few c.args.self.now.values.items 1024 few in
    let q = c.requires.gauge.weight in
    let two = c.share_of-after.ensures.few in
    omega arith

pub lower-requires : goal.lower-requires
lower-requires c =
    let within : c.args.machine < vec_len c.args.self.now.values = c.requires.within in
    let lt : c.args.machine < length c.args.self.now.values.items = omega (arith, within, c.args.self.now.values.ok.0) in
    λ there. old_held c.args.self.now.k c.args.self.now.values.items c.args.self.now.holders.items c.args.machine c.value-old.result c.if-machine-gt0.true lt c.requires.gauge.long c.requires.gauge.held c.value-old.ensures
    (omega (arith, there, c.args.self.now.holders.ok.0))

pub raise-requires : goal.raise-requires
raise-requires c =
    let few = c.requires.gauge.few in
    let a = lowered_few c.args.self.now.k c.args.self.now.values.items c.args.self.now.holders.items c.value-old.result c.args.value c.requires.gauge.long c.requires.gauge.held in
    let b : get_or c.lower.new.holders.items c.args.value 0 ≡ get_or (set c.args.self.now.holders.items c.value-old.result (get_or c.args.self.now.holders.items c.value-old.result 0 - 1)) c.args.value 0 =
    ap (λ (x : List ℕ). get_or x c.args.value 0) c.lower.ensures.items in
    omega arith

pub returns-then-machine-gt0-clause-gauge : goal.returns-then-machine-gt0-clause-gauge
returns-then-machine-gt0-clause-gauge c =
    let g = c.requires.gauge in
    let within : c.args.machine < vec_len c.args.self.now.values = c.requires.within in
    let lt : c.args.machine < length c.args.self.now.values.items = omega (arith, within, c.args.self.now.values.ok.0) in
    let n = length-set c.args.self.now.values.items c.args.machine c.args.value in
    let some = g.some in
    let few = g.few in
    let before-privileged : c.share_of-before.result.privileged ≡ both_of (bit_of c.args.self.now.values.items) c.args.machine (right_neighbour c.args.self.now.values.items c.args.machine) =
    subst (λ (x : List ℕ). c.share_of-before.result.privileged ≡ both_of (bit_of x) c.args.machine (right_neighbour x c.args.machine)) c.deref.ensures.value c.share_of-before.ensures.privileged in
    let after-privileged : c.share_of-after.result.privileged ≡ both_of (bit_of (set c.args.self.now.values.items c.args.machine c.args.value)) c.args.machine (right_neighbour (set c.args.self.now.values.items c.args.machine c.args.value) c.args.machine) =
    subst (λ (x : List ℕ). c.share_of-after.result.privileged ≡ both_of (bit_of x) c.args.machine (right_neighbour x c.args.machine)) c.deref-2.ensures.value c.share_of-after.ensures.privileged in
    let before-weight : c.share_of-before.result.weight ≡ both_of (weight_at c.args.self.now.values.items) c.args.machine (right_neighbour c.args.self.now.values.items c.args.machine) =
    subst (λ (x : List ℕ). c.share_of-before.result.weight ≡ both_of (weight_at x) c.args.machine (right_neighbour x c.args.machine)) c.deref.ensures.value c.share_of-before.ensures.weight in
    let after-weight : c.share_of-after.result.weight ≡ both_of (weight_at (set c.args.self.now.values.items c.args.machine c.args.value)) c.args.machine (right_neighbour (set c.args.self.now.values.items c.args.machine c.args.value) c.args.machine) =
    subst (λ (x : List ℕ). c.share_of-after.result.weight ≡ both_of (weight_at x) c.args.machine (right_neighbour x c.args.machine)) c.deref-2.ensures.value c.share_of-after.ensures.weight in
    record {
      some = omega arith;
      few = omega arith;
      positive = g.positive;
      privileged = (count_new c.args.self.now.values.items c.args.machine c.args.value c.share_of-before.result.privileged c.share_of-after.result.privileged c.args.self.now.privileged lt before-privileged after-privileged c.requires.gauge.privileged).1;
      weight = (weight_new c.args.self.now.values.items c.args.machine c.args.value c.share_of-before.result.weight c.share_of-after.result.weight c.args.self.now.weight lt before-weight after-weight c.requires.gauge.weight).1;
      long = long_new c.args.self.now.k c.value-old.result c.args.value c.args.self.now.holders.items c.lower.new.holders.items c.raise.new.holders.items g.long c.lower.ensures.items c.raise.ensures.items;
      held = held_new c.args.self.now.k c.args.self.now.values.items c.args.self.now.holders.items c.lower.new.holders.items c.raise.new.holders.items c.args.machine c.value-old.result c.args.value
          c.if-machine-gt0.true lt g.long g.held c.value-old.ensures c.lower.ensures.items c.raise.ensures.items;
    }

pub returns-else-machine-gt0-clause-gauge : goal.returns-else-machine-gt0-clause-gauge
returns-else-machine-gt0-clause-gauge c =
    let g = c.requires.gauge in
    let within : c.args.machine < vec_len c.args.self.now.values = c.requires.within in
    let lt : c.args.machine < length c.args.self.now.values.items = omega (arith, within, c.args.self.now.values.ok.0) in
    let n = length-set c.args.self.now.values.items c.args.machine c.args.value in
    let some = g.some in
    let few = g.few in
    let before-privileged : c.share_of-before.result.privileged ≡ both_of (bit_of c.args.self.now.values.items) c.args.machine (right_neighbour c.args.self.now.values.items c.args.machine) =
    subst (λ (x : List ℕ). c.share_of-before.result.privileged ≡ both_of (bit_of x) c.args.machine (right_neighbour x c.args.machine)) c.deref.ensures.value c.share_of-before.ensures.privileged in
    let after-privileged : c.share_of-after.result.privileged ≡ both_of (bit_of (set c.args.self.now.values.items c.args.machine c.args.value)) c.args.machine (right_neighbour (set c.args.self.now.values.items c.args.machine c.args.value) c.args.machine) =
    subst (λ (x : List ℕ). c.share_of-after.result.privileged ≡ both_of (bit_of x) c.args.machine (right_neighbour x c.args.machine)) c.deref-2.ensures.value c.share_of-after.ensures.privileged in
    let before-weight : c.share_of-before.result.weight ≡ both_of (weight_at c.args.self.now.values.items) c.args.machine (right_neighbour c.args.self.now.values.items c.args.machine) =
    subst (λ (x : List ℕ). c.share_of-before.result.weight ≡ both_of (weight_at x) c.args.machine (right_neighbour x c.args.machine)) c.deref.ensures.value c.share_of-before.ensures.weight in
    let after-weight : c.share_of-after.result.weight ≡ both_of (weight_at (set c.args.self.now.values.items c.args.machine c.args.value)) c.args.machine (right_neighbour (set c.args.self.now.values.items c.args.machine c.args.value) c.args.machine) =
    subst (λ (x : List ℕ). c.share_of-after.result.weight ≡ both_of (weight_at x) c.args.machine (right_neighbour x c.args.machine)) c.deref-2.ensures.value c.share_of-after.ensures.weight in
    record {
      some = omega arith;
      few = omega arith;
      positive = g.positive;
      privileged = (count_new c.args.self.now.values.items c.args.machine c.args.value c.share_of-before.result.privileged c.share_of-after.result.privileged c.args.self.now.privileged lt before-privileged after-privileged c.requires.gauge.privileged).1;
      weight = (weight_new c.args.self.now.values.items c.args.machine c.args.value c.share_of-before.result.weight c.share_of-after.result.weight c.args.self.now.weight lt before-weight after-weight c.requires.gauge.weight).1;
      long = g.long;
      held = held_zero c.args.self.now.k c.args.self.now.values.items c.args.self.now.holders.items c.args.machine c.args.value c.if-machine-gt0.false g.held;
    }
