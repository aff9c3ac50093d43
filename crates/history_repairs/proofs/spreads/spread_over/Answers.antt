use Rattle.std.proofs.Common.{◌≡◌, ◌+◌, ◌-◌, ◌/◌, ◌<◌, ◌∙◌, length, get_or, ap, sym, subst, arith, rules, ℕ, List}
use Rattle.std.specs.List.Sorted.{IsPermutation, IsNonDecreasing}
use Rattle.std.proofs.lemmas.List.{length-map}
use Rattle.std.proofs.lemmas.List.Sorted.{IsNonDecreasingBy-from_sort, length_permutation}
use Rattle.history_repairs.specs.declared.repairs.Repair.{Repair}
use Rattle.history_repairs.specs.Lines.{passes_of}
use Rattle.history_repairs.proofs.Spreading.{nonempty, any_default, spread_is}
use Rattle.history_repairs.proofs.spreads.spread_over.Goals as goal

pub returns : goal.returns
returns c =
    let rs = c.args.repairs.now in
    let ys = c.sort.new.self.items in
    let some : 0 < length rs = nonempty (length rs) (sym c.is_empty.ensures ∙ c.if-is_empty.false) in
    let same : IsPermutation (passes_of rs) ys = subst (λ (xs : List ℕ). IsPermutation xs ys) c.in_ok-passes.ensures c.in_ok-sort.ensures.permutation in
    let up : IsNonDecreasing ys = IsNonDecreasingBy-from_sort (λ x. x) ys c.in_ok-sort.ensures.sorted in
    let long : length ys ≡ length (passes_of rs) = length_permutation (passes_of rs) ys same in
    let all : length (passes_of rs) ≡ length rs = length-map rs (λ (r : Repair). r.passes) in
    let last = c.len-last.result - 1 in
    let many : c.len-last.result ≡ length ys = omega (arith, c.len-last.ensures) in
    let one : last + 1 ≡ length ys = omega arith in
    let low : c.index.result.now ≡ get_or ys 0 c.index.result.now = search rules in
    let mid : c.index-2.result.now ≡ get_or ys (last / 2) c.index-2.result.now = search rules in
    let high : c.index-3.result.now ≡ get_or ys last c.index-3.result.now = search rules in
    spread_is rs ys last c.index.result.now c.index-2.result.now c.index-3.result.now c.most_privileged.result some one same up
    (low ∙ any_default ys 0 c.index.result.now 0 (omega arith))
    (mid ∙ any_default ys (last / 2) c.index-2.result.now 0 (omega arith))
    (high ∙ any_default ys last c.index-3.result.now 0 (omega arith))
    c.most_privileged.ensures
