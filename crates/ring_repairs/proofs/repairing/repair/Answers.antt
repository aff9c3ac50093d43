use Rattle.std.proofs.Common.{◌≡◌, true, false, sym, ◌∙◌, ap, arith}
use Rattle.std.proofs.lemmas.Bool.{eq-eqb, ne_eqb}
use Rattle.ring_model.specs.Ring.{Ring, moved, privileged_count, is_settled}
use Rattle.ring_repairs.proofs.Choices.{repairs_start, repairs_more, repairs_end, repairs_out}
use Rattle.machine_masks.proofs.Marks.{members_marked}
use Rattle.ring_repairs.proofs.repairing.repair.Goals as goal

pub loop-init : goal.loop-init
loop-init c = record {
  run = repairs_start c.args.daemon c.args.most c.args.memory.now c.args.ring.now c.params.ensures.ring.ring;
  asked = omega arith;
  marked = c.privileged_machines-privileged.ensures;
}

pub loop-preserved : goal.loop-preserved
loop-preserved c =
    let s = c.loop.ring.values in
    let same = c.loop.invariant.run.size in
    let small = c.params.ensures.ring.most_machines in
    let count : c.count.result ≡ privileged_count s = c.count.ensures ∙ members_marked s c.loop.privileged c.loop.invariant.marked (omega arith) in
    let going : is_settled s ≡ false = ne_eqb (privileged_count s) 1 (λ e. c.if-count-eq1.false (count ∙ e)) in
    let more = c.choose-machine.ensures.asked in
    let asked' = c.loop.invariant.asked in
    record {
      run =
          repairs_more c.args.daemon c.args.most c.loop.passes c.choose-machine.result c.args.memory.now c.loop.memory c.choose-machine.new.memory
          c.args.ring.now c.loop.ring c.pass.new.ring c.loop.counter c.loop.invariant.run c.loop-test.true going c.choose-machine.ensures.memory
          c.choose-machine.ensures.choice (c.pass.ensures.is ∙ ap (λ (r : Ring). moved r c.choose-machine.result) c.choose-machine.ensures.same);
      asked = omega arith;
      marked = c.pass.ensures.marked;
    }

pub returns-after-loop-clause-passes : goal.returns-after-loop-clause-passes
returns-after-loop-clause-passes c =
    repairs_out c.args.daemon c.args.most c.loop.passes c.args.memory.now c.loop.memory c.args.ring.now c.loop.ring c.loop.counter c.loop.invariant.run
    (omega arith)

pub returns-then-count-eq1-clause-passes : goal.returns-then-count-eq1-clause-passes
returns-then-count-eq1-clause-passes c =
    let s = c.loop.ring.values in
    let same = c.loop.invariant.run.size in
    let small = c.params.ensures.ring.most_machines in
    let count : c.count.result ≡ privileged_count s = c.count.ensures ∙ members_marked s c.loop.privileged c.loop.invariant.marked (omega arith) in
    let settled : is_settled s ≡ true = eq-eqb (privileged_count s) 1 (sym count ∙ c.if-count-eq1.true) in
    repairs_end c.args.daemon c.args.most c.loop.passes c.args.memory.now c.loop.memory c.args.ring.now c.loop.ring c.loop.counter c.loop.invariant.run settled
