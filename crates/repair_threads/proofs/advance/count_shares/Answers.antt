use Rattle.std.proofs.Common.{◌≡◌, ℕ, ◌+◌, ◌-◌, ◌<◌, ◌≤◌, ◌∙◌, ap, arith}
use Rattle.std.specs.List.{range_with_len}
use Rattle.rayon.specs.Numbers.{nat_range}
use Rattle.rayon.proofs.ToStd.{nat_range-All}
use Rattle.ring_repairs.specs.Studies.{trial_count}
use Rattle.repair_threads.specs.Shares.{thread_limit}
use Rattle.repair_threads.proofs.Sharing.{whole, part_at, parts_many}
use Rattle.repair_threads.proofs.advance.count_shares.Goals as goal

pub collect-requires-clause-ready : goal.collect-requires-clause-ready
collect-requires-clause-ready g c κs within =
    let ends = c.into_par_iter.ensures in
    let split = c.args.split in
    let inside = nat_range-All (λ (i : ℕ). (split.first + split.trials ≤ trial_count c.args.study.now) × (split.parts ≤ thread_limit) × (i < split.parts)) 0 split.parts
    (λ i low high. (c.requires.all, c.requires.parts, high)) in
    rw (c.map.ensures.base, c.map.ensures.f, c.with_min_len.ensures.base, ends.0, ends.1) (λ k d lt. (inside k d lt, λ y p. tt))

pub returns-clause-long : goal.returns-clause-long
returns-clause-long g c =
    let ends = c.into_par_iter.ensures in
    let n = c.args.split.parts in
    let all : n - 0 ≡ n = omega arith in
    let h = c.in_ok-collect.ensures in
    let chain = rw (c.map.ensures.base, c.map.ensures.f, c.with_min_len.ensures.base) at h.1 in
    let places = chain.1 ∙ (λ i. nat_range (ends.0 i) (ends.1 i)) ∙ ap (range_with_len 0) all in
    whole c.in_ok-collect.field-0 _ _ _ h.2 (λ v m. parts_many _ n chain.0 h.0 v.items m.0 places chain.2 m.1 m.2)

pub returns-clause-parts : goal.returns-clause-parts
returns-clause-parts g c =
    let ends = c.into_par_iter.ensures in
    let n = c.args.split.parts in
    let all : n - 0 ≡ n = omega arith in
    let h = c.in_ok-collect.ensures in
    let chain = rw (c.map.ensures.base, c.map.ensures.f, c.with_min_len.ensures.base) at h.1 in
    let places = chain.1 ∙ (λ i. nat_range (ends.0 i) (ends.1 i)) ∙ ap (range_with_len 0) all in
    whole c.in_ok-collect.field-0 _ _ _ h.2 (λ v m. λ k d l. part_at _ n chain.0 h.0 v.items m.0 places chain.2 m.1 m.2 k d l)
