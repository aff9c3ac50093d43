use Rattle.std.proofs.Common.{◌≡◌, ℕ, cond, List, Option, Some, None, refl, sym, ◌∙◌, ap, subst, arith}
use Rattle.std.specs.Prelude.{option_map, slice_get, slice_set}
use Rattle.std.specs.HashMap.{get_by_text}
use Rattle.std.specs.BinaryHeap.{heap_capacity, heap_items}
use Rattle.std.proofs.lemmas.Bool.{false≢true}
use Rattle.std.specs.Str.{bytes_eq}
use Rattle.std.proofs.lemmas.List.{map-set}
use Rattle.std.proofs.lemmas.Map.Text.{hash_map_updates_text}
use Rattle.lock_names.specs.declared.table.Binding.{Binding}
use Rattle.name_bindings.specs.Bindings.{Bound}
use Rattle.lock_names.specs.Table.{bound_of, bounds_of, IsKeptTable}
use Rattle.lock_names.proofs.Tabled.{kept_forgot, heap_below, entry_read}
use Rattle.lock_names.proofs.table.forget_among.Goals as goal

pub returns-in_default-clause-new : goal.returns-in_default-clause-new
returns-in_default-clause-new c =
    map-set (λ (o : Option Binding). option_map bound_of o) c.args.bound.now.items c.args.ring c.take.new.self
    ∙ ap (λ (o : Option Binding). slice_set (bounds_of c.args.bound.now.items) c.args.ring (option_map bound_of o)) c.take.ensures.after

pub unreachable-requires : goal.unreachable-requires
unreachable-requires c =
    let entry : slice_get (bounds_of c.args.bound.now.items) c.args.ring ≡ Some (Some (bound_of c.in-Some.binding)) =
    entry_read c.args.bound.now.items c.args.ring c.index_mut.result.now c.requires.ring c.index_mut.ensures.value
    ∙ ap (λ (o : Option Binding). Some (option_map bound_of o)) (sym c.take.ensures.value ∙ c.in-Some.is) in
    let n = c.args.spare.now.data.ok.0 in
    let lt = heap_below (bounds_of c.args.bound.now.items) (λ (x : List ℕ). get_by_text c.args.rings.now x) (heap_items c.args.spare.now) (heap_capacity c.args.spare.now) c.args.ring (bound_of c.in-Some.binding) c.requires.kept entry in
    let ok = c.in-Err.ensures.succeeds (omega arith) in
    absurd (false≢true ok)

pub returns-clause-kept : goal.returns-clause-kept
returns-clause-kept c =
    let entry : slice_get (bounds_of c.args.bound.now.items) c.args.ring ≡ Some (Some (bound_of c.in-Some.binding)) =
    entry_read c.args.bound.now.items c.args.ring c.index_mut.result.now c.requires.ring c.index_mut.ensures.value
    ∙ ap (λ (o : Option Binding). Some (option_map bound_of o)) (sym c.take.ensures.value ∙ c.in-Some.is) in
    subst (λ (os : List (Option Bound)). IsKeptTable os (λ (x : List ℕ). get_by_text c.remove.new.self x) (heap_items c.push.new.self) (heap_capacity c.push.new.self))
    (sym (map-set (λ (o : Option Binding). option_map bound_of o) c.args.bound.now.items c.args.ring c.take.new.self
    ∙ ap (λ (o : Option Binding). slice_set (bounds_of c.args.bound.now.items) c.args.ring (option_map bound_of o)) c.take.ensures.after))
    (kept_forgot (bounds_of c.args.bound.now.items) (λ (x : List ℕ). get_by_text c.args.rings.now x) (λ (x : List ℕ). get_by_text c.remove.new.self x) (heap_items c.args.spare.now) (heap_items c.push.new.self)
    (heap_capacity c.args.spare.now) (heap_capacity c.push.new.self) (record { 0 = c.args.ring }) c.args.ring (bound_of c.in-Some.binding) c.requires.kept entry refl c.in-Ok.ensures.permutation c.in-Ok.ensures.heap_order
    c.push.ensures.capacity
    (λ y. hash_map_updates_text c.as_str.result.now c.args.rings.now c.remove.new.self None c.remove.ensures.updates y
    ∙ ap (λ (x : List ℕ). cond (bytes_eq x y) None (get_by_text c.args.rings.now y)) c.as_str.ensures.value))

pub returns-clause-new : goal.returns-clause-new
returns-clause-new c =
    map-set (λ (o : Option Binding). option_map bound_of o) c.args.bound.now.items c.args.ring c.take.new.self
    ∙ ap (λ (o : Option Binding). slice_set (bounds_of c.args.bound.now.items) c.args.ring (option_map bound_of o)) c.take.ensures.after
