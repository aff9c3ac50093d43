use Rattle.std.proofs.Common.{◌≡◌, ℕ, ◌<◌, ◌≤◌, List, length, refl, sym, ◌∙◌, ap, arith}
use Rattle.std.proofs.lemmas.List.{length-set}
use Rattle.std.proofs.Math.ListN.{set}
use Rattle.rand_pcg.specs.Lcg.{Lcg}
use Rattle.ring_model.specs.Ring.{Ring}
use Rattle.ring_state.specs.Sizes.{Size}
use Rattle.ring_repairs.specs.Draws.{draw}
use Rattle.ring_repairs.specs.Starts.{drawn_values, after_values}
use Rattle.ring_repairs.proofs.Starting.{drawn_none, after_none, drawn_more, after_more, all_written}
use Rattle.ring_repairs.proofs.starts.write_any.Goals as goal

pub loop-machine-init : goal.loop-machine-init
loop-machine-init c = record {
  same = refl;
  values = drawn_none c.args.ring.now.k c.args.words.now c.args.ring.now.values;
  words = after_none c.args.ring.now.k c.args.words.now;
  long = refl;
}

pub loop-machine-preserved : goal.loop-machine-preserved
loop-machine-preserved c =
    let k : c.k.result ≡ c.args.ring.now.k = c.k.ensures.is ∙ ap (λ (s : Size). s.k) c.params-size.ensures.is in
    let n : c.n-machine-end.result ≡ length c.args.ring.now.values = c.n-machine-end.ensures.is ∙ ap (λ (s : Size). s.n) c.params-size.ensures.is in
    let i : ℕ = c.loop-machine.machine in
    let l : i < length c.args.ring.now.values = omega arith in
    let inv = c.loop-machine.invariant in
    let drawn : ◌≡◌ {A = ℕ × Lcg} (c.draw-value.result, c.draw-value.new.words) (draw c.args.ring.now.k c.loop-machine.words) =
    c.draw-value.ensures.drawn ∙ ap (λ (x : ℕ). draw x c.loop-machine.words) k in
    let values' : c.write.new.self.values ≡ set c.loop-machine.ring.values i c.draw-value.result = ap (λ (r : Ring). r.values) c.write.ensures.new in
    record {
      same = ap (λ (r : Ring). r.k) c.write.ensures.new ∙ inv.same;
      values =
          drawn_more c.args.ring.now.k c.args.words.now c.loop-machine.words c.draw-value.new.words i c.draw-value.result c.args.ring.now.values
          c.loop-machine.ring.values c.write.new.self.values inv.words drawn l inv.values values';
      words = after_more c.args.ring.now.k c.args.words.now c.loop-machine.words c.draw-value.new.words i c.draw-value.result inv.words drawn;
      long = ap (λ (x : List ℕ). length x) values' ∙ length-set c.loop-machine.ring.values i c.draw-value.result ∙ inv.long;
    }

pub returns-clause-values : goal.returns-clause-values
returns-clause-values c =
    let n : c.n-machine-end.result ≡ length c.args.ring.now.values = c.n-machine-end.ensures.is ∙ ap (λ (s : Size). s.n) c.params-size.ensures.is in
    let i : ℕ = c.loop-machine.machine in
    let at_end : i ≡ length c.args.ring.now.values = omega arith in
    let inv = c.loop-machine.invariant in
    all_written (drawn_values c.args.ring.now.k c.args.words.now i) c.args.ring.now.values c.loop-machine.ring.values i inv.values (omega arith)
    ∙ ap (drawn_values c.args.ring.now.k c.args.words.now) at_end

pub returns-clause-words : goal.returns-clause-words
returns-clause-words c =
    let n : c.n-machine-end.result ≡ length c.args.ring.now.values = c.n-machine-end.ensures.is ∙ ap (λ (s : Size). s.n) c.params-size.ensures.is in
    let i : ℕ = c.loop-machine.machine in
    let at_end : i ≡ length c.args.ring.now.values = omega arith in
    c.loop-machine.invariant.words ∙ ap (after_values c.args.ring.now.k c.args.words.now) at_end
