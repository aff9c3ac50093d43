use Rattle.std.proofs.Common.{ℕ, List, Option, Some, None, sym, subst, arith}
use Rattle.std.specs.Prelude.{string_bytes, option_map}
use Rattle.std.specs.HashMap.{get_by_text}
use Rattle.std.specs.BinaryHeap.{heap_capacity, heap_items}
use Rattle.std.proofs.lemmas.List.{map-set}
use Rattle.std.proofs.lemmas.Map.Text.{hash_map_updates_text}
use Rattle.lock_names.specs.declared.table.Binding.{Binding}
use Rattle.name_bindings.specs.Bindings.{Bound}
use Rattle.lock_names.specs.Table.{bound_of, bounds_of, IsKeptTable}
use Rattle.name_bindings.proofs.Found.{free_at}
use Rattle.lock_names.proofs.Tabled.{kept_bound, empty_contradicts, entry_within}
use Rattle.lock_names.proofs.table.bind_among.Goals as goal

pub index_mut-requires : goal.index_mut-requires
index_mut-requires c =
    let lt = entry_within c.args.bound.now.items c.args.ring None (free_at (bounds_of c.args.bound.now.items) c.args.ring c.requires.lowest) in
    let n = c.args.bound.now.ok.0 in
    omega arith

pub unreachable-requires : goal.unreachable-requires
unreachable-requires c =
    let n = c.args.spare.now.data.ok.0 in
    let none = c.in-None.ensures.none in
    empty_contradicts (bounds_of c.args.bound.now.items) (λ (x : List ℕ). get_by_text c.args.rings.now x) (heap_items c.args.spare.now) (heap_capacity c.args.spare.now) c.args.ring c.requires.kept (omega arith) c.requires.lowest

pub returns-clause-kept : goal.returns-clause-kept
returns-clause-kept c =
    subst (λ (os : List (Option Bound)). IsKeptTable os (λ (x : List ℕ). get_by_text c.insert.new.self x) (heap_items c.pop.new.self) (heap_capacity c.pop.new.self))
    (sym (map-set (λ (o : Option Binding). option_map bound_of o) c.args.bound.now.items c.args.ring (Some c.args.binding)))
    (kept_bound (bounds_of c.args.bound.now.items) (λ (x : List ℕ). get_by_text c.args.rings.now x) (λ (x : List ℕ). get_by_text c.insert.new.self x) (heap_items c.args.spare.now) (heap_items c.pop.new.self)
    (heap_capacity c.args.spare.now) (heap_capacity c.pop.new.self) c.in-Some.field-0 c.args.ring (string_bytes c.args.key) (bound_of c.args.binding) c.requires.kept c.requires.lowest c.requires.name c.requires.unused
    c.in-Some.ensures.permutation c.in-Some.ensures.heap_order c.in-Some.ensures.below_top c.pop.ensures.capacity
    (hash_map_updates_text (string_bytes c.args.key) c.args.rings.now c.insert.new.self (Some c.args.ring) c.in-Ok.ensures.updates))

pub returns-clause-ok : goal.returns-clause-ok
returns-clause-ok c = map-set (λ (o : Option Binding). option_map bound_of o) c.args.bound.now.items c.args.ring (Some c.args.binding)
