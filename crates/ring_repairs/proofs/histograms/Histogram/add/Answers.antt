use Rattle.std.proofs.Common.{◌≡◌, ℕ, ◌+◌, ◌<◌, List, length, ◌∙◌, ap, arith}
use Rattle.std.proofs.lemmas.List.{length-set}
use Rattle.std.proofs.Math.ListN.{set}
use Rattle.ring_repairs.specs.Histograms.{counted}
use Rattle.ring_repairs.proofs.Counting.{entry, entry_at, entry_fits, counted_set}
use Rattle.ring_repairs.proofs.histograms.Histogram.add.Goals as goal

pub overflow_add-index_mut : goal.overflow_add-index_mut
overflow_add-index_mut c =
    let h = c.self.inside.counts.items in
    let same = ap (λ (x : List ℕ). length x) c.self.view_is in
    let l : c.args.number < length h = omega arith in
    let fits = entry_fits h c.args.number l c.self.invariant.0.few in
    let is : c.index_mut.result.now ≡ entry h c.args.number = c.index_mut.ensures.value ∙ entry_at h c.args.number c.index_mut.result.now l in
    omega arith

pub invariant_of-self : goal.invariant_of-self
invariant_of-self c =
    let h = c.self.inside.counts.items in
    let same = ap (λ (x : List ℕ). length x) c.self.view_is in
    let all = ap counted c.self.view_is in
    let room = c.requires.room in
    let v = c.index_mut.result.now + 1 in
    let l : c.args.number < length h = omega arith in
    let is : c.index_mut.result.now ≡ entry h c.args.number = c.index_mut.ensures.value ∙ entry_at h c.args.number c.index_mut.result.now l in
    let sum = counted_set h c.args.number v l in
    let long : length (set h c.args.number v) ≡ length h = length-set h c.args.number v in
    let short = c.self.invariant.0.short in
    let total = c.self.invariant.1 in
    let more : c.self.inside.total + 1 ≡ counted (set h c.args.number v) = omega arith in
    (record { few = omega arith; short = omega arith }, more)
