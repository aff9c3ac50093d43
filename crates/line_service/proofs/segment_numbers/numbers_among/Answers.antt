use Rattle.std.proofs.Common.{◌≡◌, List, ℕ, sym, subst}
use Rattle.std.specs.List.{All}
use Rattle.std.specs.List.Sorted.{IsNonDecreasing, IsPermutation}
use Rattle.std.proofs.lemmas.List.Sorted.{IsNonDecreasingBy-from_sort}
use Rattle.line_service.specs.SegmentNames.{IsNumber}
use Rattle.line_service.proofs.Entries.{each_sorted, range_answer, gap_answer, refused_entry}
use Rattle.line_service.proofs.segment_numbers.numbers_among.Goals as goal

pub returns-in-Err : goal.returns-in-Err
returns-in-Err c = refused_entry c.args.entries.now c.in-Err.error c.in-Err.ensures.err

pub range_of-requires-clause-sorted : goal.range_of-requires-clause-sorted
range_of-requires-clause-sorted c =
    subst IsNonDecreasing (sym c.deref.ensures.value) (IsNonDecreasingBy-from_sort (λ x. x) c.sort_unstable.new.self.items c.sort_unstable.ensures.sorted)

pub range_of-requires-clause-each : goal.range_of-requires-clause-each
range_of-requires-clause-each c =
    subst (All IsNumber) (sym c.deref.ensures.value) (each_sorted c.args.entries.now c.in-Ok.numbers.items c.sort_unstable.new.self.items c.in-Ok.ensures.ok c.sort_unstable.ensures.permutation)

pub returns-in-Ok-range_of : goal.returns-in-Ok-range_of
returns-in-Ok-range_of c =
    let moved : IsPermutation c.in-Ok.numbers.items c.deref.result.now = subst (IsPermutation c.in-Ok.numbers.items) (sym c.deref.ensures.value) c.sort_unstable.ensures.permutation in
    range_answer c.args.entries.now c.in-Ok.numbers.items c.deref.result.now c.in-Ok.ensures.ok moved c.in-Ok-range_of.range c.in-Ok-range_of.ensures

pub returns : goal.returns
returns c =
    let moved : IsPermutation c.in-Ok.numbers.items c.deref.result.now = subst (IsPermutation c.in-Ok.numbers.items) (sym c.deref.ensures.value) c.sort_unstable.ensures.permutation in
    (c.in-Ok.ensures.ok.entries_right, gap_answer c.args.entries.now c.in-Ok.numbers.items c.deref.result.now c.in-Ok.ensures.ok moved c.in-Err-range_of.number c.in-Err-range_of.ensures)
