use Rattle.std.proofs.Common.{◌≡◌, ◌∙◌, ℕ, ap, arith, rules}
use Rattle.rand_pcg.specs.Lcg.{Lcg}
use Rattle.ring_repairs.specs.Draws.{draw, generator}
use Rattle.ring_repairs.proofs.Starting.{after_none, after_more}
use Rattle.setup_commands.proofs.Starting.{drawn_first, drawn_next, drawn_all}
use Rattle.setup_commands.proofs.rings.drawn_start.Goals as goal

pub loop-machine-init : goal.loop-machine-init
loop-machine-init c = record {
  drawn = drawn_first c.args.size.now.k (generator c.args.seed c.args.trial) c.new-values.result.items c.new-values.ensures.items;
  words = c.generator-words.ensures ∙ after_none c.args.size.now.k (generator c.args.seed c.args.trial);
  long = search rules;
}

pub loop-machine-preserved : goal.loop-machine-preserved
loop-machine-preserved c =
    let k = c.args.size.now.k in
    let g : Lcg = generator c.args.seed c.args.trial in
    let i : ℕ = c.loop-machine.machine in
    let inv = c.loop-machine.invariant in
    let drawn : ◌≡◌ {A = ℕ × Lcg} (c.draw-value.result, c.draw-value.new.words) (draw k c.loop-machine.words) =
    c.draw-value.ensures.drawn ∙ ap (λ (x : ℕ). draw x c.loop-machine.words) c.k.ensures.is in
    record {
      drawn =
          drawn_next k g c.loop-machine.words c.draw-value.new.words i c.draw-value.result c.loop-machine.values.items c.push.new.self.items inv.words drawn inv.drawn
          c.in_ok-push.ensures.items;
      words = after_more k g c.loop-machine.words c.draw-value.new.words i c.draw-value.result inv.words drawn;
      long = search rules;
    }

pub returns-clause-values : goal.returns-clause-values
returns-clause-values c =
    let n : c.n-machine-end.result ≡ c.args.size.now.n = c.n-machine-end.ensures.is in
    let i : ℕ = c.loop-machine.machine in
    let at_end : i ≡ c.args.size.now.n = omega arith in
    drawn_all c.args.size.now (generator c.args.seed c.args.trial) i c.loop-machine.values.items c.loop-machine.invariant.drawn at_end
