use Rattle.std.proofs.Common.{arith, List, ℕ, length, get_or, take, drop, ◌-◌, ◌≡◌, ◌<◌, ◌∙◌, ap}
use Rattle.std.proofs.lemmas.List.{take_rest, length-drop, get_or-drop}
use Rattle.ring_lanes.proofs.Searching.{prefix_whole, prefix_searched}
use Rattle.ring_lanes.proofs.Meaning.{prefix_means}
use Rattle.ring_lanes.proofs.wide_first_value_is_prefix.Goals as goal

pub returns-then-end-s-clause-test : goal.returns-then-end-s-clause-test
returns-then-end-s-clause-test c = prefix_whole c.args.s.now c.first_late_hit-end.result c.if-end-s.true c.first_late_hit-end.ensures.before

pub returns : goal.returns
returns c =
    let s = c.args.s.now in
    let m = c.first_late_hit-end.result in
    let t : List ℕ = take (length s - m) (drop m s) in
    let same : t ≡ drop m s = simp take_rest in
    let within : m < length s = omega (arith, c.first_late_hit-end.ensures.high, c.if-end-s.false) in
    let size : length t ≡ length s - m = ap (λ (xs : List ℕ). length xs) same ∙ length-drop m s in
    let test = prefix_searched s t m c.any_hit.result c.first_late_hit-end.ensures.low within size
    (λ k lt. ap (λ (xs : List ℕ). get_or xs k 0) same ∙ get_or-drop m s k 0)
    c.first_late_hit-end.ensures.before (c.first_late_hit-end.ensures.here within) c.any_hit.ensures.found c.any_hit.ensures.none in
    record { test = test; prefix = prefix_means s _ (omega arith) test }
