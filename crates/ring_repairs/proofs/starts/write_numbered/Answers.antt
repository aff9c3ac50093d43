use Rattle.std.proofs.Common.{◌≡◌, ℕ, ◌+◌, ◌-◌, ◌/◌, ◌%◌, ◌<◌, List, ◌∷◌, ◌++◌, length, take, refl, sym, ◌∙◌, ap, subst, arith}
use Rattle.std.proofs.lemmas.List.{length-set}
use Rattle.std.proofs.Math.ListN.{set}
use Rattle.ring_model.specs.Ring.{Ring}
use Rattle.ring_state.specs.Sizes.{Size}
use Rattle.ring_repairs.specs.Starts.{digits}
use Rattle.ring_repairs.proofs.Numbering.{numbering_goes_on}
use Rattle.ring_repairs.proofs.starts.write_numbered.Goals as goal

pub loop-machine-preserved : goal.loop-machine-preserved
loop-machine-preserved c =
    let i : ℕ = c.loop-machine.machine in
    let k : ℕ = c.k-k.result in
    let left : ℕ = c.loop-machine.left in
    let vs : List ℕ = c.loop-machine.ring.values in
    let inv = c.loop-machine.invariant in
    let new : List ℕ = c.write-in-loop-machine.new.self.values in
    let values' : new ≡ set vs i (left % k) = ap (λ (r : Ring). r.values) c.write-in-loop-machine.ensures.new in
    let first : length c.write.new.self.values ≡ length c.args.ring.now.values =
    ap (λ (r : Ring). length r.values) c.write.ensures.new ∙ length-set c.args.ring.now.values 0 0 in
    let n : c.n-machine-end.result ≡ length c.args.ring.now.values = c.n-machine-end.ensures.is ∙ ap (λ (s : Size). s.n) c.params-size.ensures.is in
    let long = inv.long in
    let l : i < length vs = omega arith in
    let same : length new ≡ length vs = ap (λ (x : List ℕ). length x) values' ∙ length-set vs i (left % k) in
    let main : take (i + 1) new ++ digits k (left / k) (length vs - (i + 1)) ≡ 0 ∷ digits k c.args.number (length vs - 1) =
    numbering_goes_on k left i (length vs) (left % k) vs new (0 ∷ digits k c.args.number (length vs - 1)) refl l refl values' inv.values in
    record {
      same = ap (λ (r : Ring). r.k) c.write-in-loop-machine.ensures.new ∙ inv.same;
      long = same ∙ inv.long;
      values =
          subst (λ (x : ℕ). take (i + 1) new ++ digits k (left / k) (x - (i + 1)) ≡ 0 ∷ digits k c.args.number (x - 1)) (sym same) main;
    }
