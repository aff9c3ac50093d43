use Rattle.std.proofs.Common.{ℕ, ◌<◌, List, length, refl, sym, ◌∙◌, ap, arith}
use Rattle.std.specs.HashMap.{get_by_text}
use Rattle.std.specs.BinaryHeap.{heap_capacity, heap_items}
use Rattle.std.proofs.lemmas.Bool.{false≢true}
use Rattle.name_bindings.specs.Bindings.{free}
use Rattle.lock_names.specs.Table.{bounds_of}
use Rattle.lock_names.proofs.Tabled.{peeked_is_free, empty_is_full}
use Rattle.lock_names.proofs.table.Table.lowest_free.Goals as goal

pub returns-in-Some : goal.returns-in-Some
returns-in-Some c =
    let s = c.self.inside in
    let n = s.spare.data.ok.0 in
    let some : 0 < length (heap_items s.spare) = let lt = c.in-Some.ensures.variant.0 refl in omega arith in
    sym (peeked_is_free (bounds_of s.bound.items) (λ (x : List ℕ). get_by_text s.rings x) (heap_items s.spare) (heap_capacity s.spare) c.in-Some.ring.now c.self.invariant some c.in-Some.ensures.lookup
    (c.in-Some.ensures.greatest c.self.invariant.order)) ∙ ap free c.self.view_is

pub returns-in-None : goal.returns-in-None
returns-in-None c =
    let s = c.self.inside in
    let n = s.spare.data.ok.0 in
    sym (empty_is_full (bounds_of s.bound.items) (λ (x : List ℕ). get_by_text s.rings x) (heap_items s.spare) (heap_capacity s.spare) c.self.invariant
    (λ lt. false≢true (c.in-None.ensures.variant.1 (omega arith)))) ∙ ap free c.self.view_is
