use Rattle.std.proofs.Common.{◌≡◌, ◌≤◌, ◌+◌, ℕ, List, [], ◌∷◌, ◌++◌, length, Option, None, sym, ◌∙◌, ap, subst, arith}
use Rattle.std.specs.Prelude.{option_map}
use Rattle.std.specs.HashMap.{get_by_text}
use Rattle.std.specs.BinaryHeap.{heap_capacity, heap_items}
use Rattle.std.proofs.lemmas.List.{length-map, map-append}
use Rattle.core.specs.declared.cmp.Reverse.{Reverse}
use Rattle.lock_names.specs.declared.table.Binding.{Binding}
use Rattle.name_bindings.specs.Bindings.{Bound}
use Rattle.lock_names.specs.Table.{bound_of, bounds_of, IsKeptTable}
use Rattle.lock_names.proofs.Tabled.{kept_freed}
use Rattle.lock_names.proofs.table.add_free_among.Goals as goal

pub returns-clause-kept : goal.returns-clause-kept
returns-clause-kept c =
    let old = c.args.bound.now.items in
    let none : Option Binding = None in
    let items : c.push_reserved.new.self.items ≡ old ++ none ∷ [] = c.push_reserved.ensures.items ∙ ap (λ (xs : List (Option Binding)). xs ++ none ∷ []) c.in-Ok.ensures.items in
    let many : length (bounds_of old) ≡ length old = length-map old (λ (o : Option Binding). option_map bound_of o) in
    let ring = c.requires.ring in
    let room : length (bounds_of old) + 1 ≤ heap_capacity c.push.new.self =
    let n = c.args.bound.now.ok.0 in
    let len = c.reserve.ensures.len in
    let now = c.len.ensures in
    let ok = c.in-Ok-reserve.ensures.ok in
    let more = c.push.ensures.capacity in
    omega arith in
    let kept : IsKeptTable (bounds_of old) (λ (x : List ℕ). get_by_text c.args.rings.now x) (heap_items c.reserve-2.new.self) (heap_capacity c.args.spare.now) =
    subst (λ (rs : List (Reverse ℕ)). IsKeptTable (bounds_of old) (λ (x : List ℕ). get_by_text c.args.rings.now x) rs (heap_capacity c.args.spare.now)) (sym c.reserve-2.ensures.items) c.requires.kept in
    subst (λ (os : List (Option Bound)). IsKeptTable os (λ (x : List ℕ). get_by_text c.args.rings.now x) (heap_items c.push.new.self) (heap_capacity c.push.new.self))
    (sym (ap bounds_of items ∙ map-append (λ (o : Option Binding). option_map bound_of o) old (none ∷ [])))
    (kept_freed (bounds_of old) (λ (x : List ℕ). get_by_text c.args.rings.now x) (heap_items c.reserve-2.new.self) (heap_items c.push.new.self) (heap_capacity c.args.spare.now) (heap_capacity c.push.new.self)
    (record { 0 = c.args.ring }) kept (omega arith) c.in-Ok-push.ensures.permutation c.in-Ok-push.ensures.heap_order room)
