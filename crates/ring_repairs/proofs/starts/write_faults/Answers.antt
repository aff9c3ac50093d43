use Rattle.std.proofs.Common.{◌≡◌, ℕ, ◌+◌, ◌-◌, ◌<◌, ◌≤◌, List, length, refl, sym, ◌∙◌, ap, arith}
use Rattle.std.proofs.lemmas.List.{length-set}
use Rattle.std.proofs.Math.ListN.{set}
use Rattle.rand_pcg.specs.Lcg.{Lcg}
use Rattle.ring_model.specs.Ring.{Ring}
use Rattle.ring_state.specs.Sizes.{Size, size_of}
use Rattle.ring_repairs.specs.Draws.{draw}
use Rattle.ring_repairs.specs.Starts.{settled_value, hits_with, hit_by}
use Rattle.ring_repairs.proofs.Starting.{Written, written_none, written_more, settled_at, settled_past, faulty_values, faulty_words}
use Rattle.ring_repairs.proofs.starts.write_faults.Goals as goal
use Rattle.ring_repairs.proofs.starts.write_faults.Goals.{then-machine-place, else-machine-place}

pub loop-machine-init : goal.loop-machine-init
loop-machine-init c = record {
  same = refl;
  long = refl;
  written = written_none (size_of c.args.ring.now) c.draw-place.result c.args.faults c.draw-place.new.words c.args.ring.now.values;
}

pub loop-machine-preserved : goal.loop-machine-preserved
loop-machine-preserved c =
    let size : Size = size_of c.args.ring.now in
    let k : c.k-k.result ≡ size.k = c.k-k.ensures.is ∙ ap (λ (s : Size). s.k) c.params-size.ensures.is in
    let n : c.n-n.result ≡ size.n = c.n-n.ensures.is ∙ ap (λ (s : Size). s.n) c.params-size.ensures.is in
    let i : ℕ = c.loop-machine.machine in
    let l : i < length c.args.ring.now.values = omega arith in
    let v : ℕ = c.value_or_hit-value.result in
    let settled : ℕ = c.if-machine-place.settled in
    let inv = c.loop-machine.invariant in
    let old : settled ≡ settled_value c.draw-place.result i = elim c.if-machine-place.branch [
      | then-machine-place w ↦ settled_at c.draw-place.result i settled (omega arith) w.settled-is
      | else-machine-place w ↦ settled_past c.draw-place.result i settled (omega arith) w.settled-is
    ] in
    let values' : c.write.new.self.values ≡ set c.loop-machine.ring.values i v = ap (λ (r : Ring). r.values) c.write.ensures.new in
    record {
      same = ap (λ (r : Ring). r.k) c.write.ensures.new ∙ inv.same;
      long = ap (λ (x : List ℕ). length x) values' ∙ length-set c.loop-machine.ring.values i v ∙ inv.long;
      written =
          written_more size c.draw-place.result c.args.faults c.draw-place.new.words c.args.ring.now.values i c.loop-machine.left c.loop-machine.words
          c.loop-machine.ring.values settled v c.value_or_hit-value.new.left c.value_or_hit-value.new.words c.write.new.self.values inv.written l old
          (λ xs. c.value_or_hit-value.ensures.hit xs
          ∙ ap (λ (x : ℕ). hit_by x settled (hits_with xs c.loop-machine.left c.loop-machine.words) (draw (c.n-n.result - i) c.loop-machine.words)) k
          ∙ ap (λ (x : ℕ). hit_by size.k settled (hits_with xs c.loop-machine.left c.loop-machine.words) (draw (x - i) c.loop-machine.words)) n)
          values';
    }

pub returns-clause-values : goal.returns-clause-values
returns-clause-values c =
    let size : Size = size_of c.args.ring.now in
    let n : c.n-n.result ≡ size.n = c.n-n.ensures.is ∙ ap (λ (s : Size). s.n) c.params-size.ensures.is in
    let at_end : c.loop-machine.machine ≡ size.n = omega arith in
    let drawn : ◌≡◌ {A = ℕ × Lcg} (c.draw-place.result, c.draw-place.new.words) (draw size.n c.args.words.now) =
    c.draw-place.ensures.drawn ∙ ap (λ (x : ℕ). draw x c.args.words.now) n in
    faulty_values size c.draw-place.result c.args.faults c.args.words.now c.draw-place.new.words c.args.ring.now.values c.loop-machine.machine c.loop-machine.left
    c.loop-machine.words c.loop-machine.ring.values c.loop-machine.invariant.written drawn at_end refl

pub returns-clause-words : goal.returns-clause-words
returns-clause-words c =
    let size : Size = size_of c.args.ring.now in
    let n : c.n-n.result ≡ size.n = c.n-n.ensures.is ∙ ap (λ (s : Size). s.n) c.params-size.ensures.is in
    let at_end : c.loop-machine.machine ≡ size.n = omega arith in
    let drawn : ◌≡◌ {A = ℕ × Lcg} (c.draw-place.result, c.draw-place.new.words) (draw size.n c.args.words.now) =
    c.draw-place.ensures.drawn ∙ ap (λ (x : ℕ). draw x c.args.words.now) n in
    faulty_words size c.draw-place.result c.args.faults c.args.words.now c.draw-place.new.words c.args.ring.now.values c.loop-machine.machine c.loop-machine.left
    c.loop-machine.words c.loop-machine.ring.values c.loop-machine.invariant.written drawn at_end
