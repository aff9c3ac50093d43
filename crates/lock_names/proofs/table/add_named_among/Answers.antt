use Rattle.std.proofs.Common.{◌≡◌, ◌≤◌, ◌+◌, ℕ, List, [], ◌∷◌, ◌++◌, length, Option, Some, sym, ◌∙◌, ap, subst, arith}
use Rattle.std.specs.Prelude.{string_bytes, option_map}
use Rattle.std.specs.HashMap.{get_by_text}
use Rattle.std.specs.BinaryHeap.{heap_capacity, heap_items}
use Rattle.std.proofs.lemmas.List.{length-map, map-append}
use Rattle.std.proofs.lemmas.Map.Text.{hash_map_updates_text}
use Rattle.lock_names.specs.declared.table.Binding.{Binding}
use Rattle.name_bindings.specs.Bindings.{Bound}
use Rattle.lock_names.specs.Table.{bound_of, bounds_of, IsKeptTable}
use Rattle.lock_names.proofs.Tabled.{kept_named}
use Rattle.lock_names.proofs.table.add_named_among.Goals as goal

pub returns-clause-kept : goal.returns-clause-kept
returns-clause-kept c =
    let old = c.args.bound.now.items in
    let items : c.push_reserved.new.self.items ≡ old ++ Some c.args.binding ∷ [] =
    c.push_reserved.ensures.items ∙ ap (λ (xs : List (Option Binding)). xs ++ Some c.args.binding ∷ []) c.in-Ok.ensures.items in
    let many : length (bounds_of old) ≡ length old = length-map old (λ (o : Option Binding). option_map bound_of o) in
    let ring = c.requires.ring in
    let room : length (bounds_of old) + 1 ≤ heap_capacity c.reserve-2.new.self =
    let n = c.args.bound.now.ok.0 in
    let len = c.reserve.ensures.len in
    let now = c.len.ensures in
    let ok = c.in-Ok-reserve.ensures.ok in
    omega arith in
    subst (λ (os : List (Option Bound)). IsKeptTable os (λ (x : List ℕ). get_by_text c.insert.new.self x) (heap_items c.reserve-2.new.self) (heap_capacity c.reserve-2.new.self))
    (sym (ap bounds_of items ∙ map-append (λ (o : Option Binding). option_map bound_of o) old (Some c.args.binding ∷ [])))
    (kept_named (bounds_of old) (λ (x : List ℕ). get_by_text c.args.rings.now x) (λ (x : List ℕ). get_by_text c.insert.new.self x) (heap_items c.args.spare.now) (heap_items c.reserve-2.new.self)
    (heap_capacity c.args.spare.now) (heap_capacity c.reserve-2.new.self) c.args.ring (string_bytes c.args.key) (bound_of c.args.binding) c.requires.kept (omega arith) c.reserve-2.ensures.items c.requires.name
    c.requires.unused room (hash_map_updates_text (string_bytes c.args.key) c.args.rings.now c.insert.new.self (Some c.args.ring) c.in-Ok-insert.ensures.updates))
