use Rattle.std.proofs.Common.{◌≡◌, ℕ, cond, List, Option, Some, None, sym, ◌∙◌, ap, subst}
use Rattle.std.specs.Prelude.{option_map, slice_get, slice_set}
use Rattle.std.specs.HashMap.{get_by_text}
use Rattle.std.specs.Str.{bytes_eq}
use Rattle.std.proofs.lemmas.List.{map-set}
use Rattle.std.proofs.lemmas.Map.Text.{hash_map_updates_text}
use Rattle.name_bindings.specs.Bindings.{Bound}
use Rattle.name_check.specs.declared.table.Binding.{Binding}
use Rattle.name_check.specs.Tables.{bound_of, bounds_of, IsTable}
use Rattle.name_check.proofs.Tabling.{forgot_table, entry_read}
use Rattle.name_check.proofs.table.forget_among.Goals as goal

pub returns-in_default-clause-new : goal.returns-in_default-clause-new
returns-in_default-clause-new c =
    map-set (λ (o : Option Binding). option_map bound_of o) c.args.bound.now.items c.args.ring c.take.new.self
    ∙ ap (λ (o : Option Binding). slice_set (bounds_of c.args.bound.now.items) c.args.ring (option_map bound_of o)) c.take.ensures.after

pub returns-clause-table : goal.returns-clause-table
returns-clause-table c =
    let entry : slice_get (bounds_of c.args.bound.now.items) c.args.ring ≡ Some (Some (bound_of c.in-Some.binding)) =
    entry_read c.args.bound.now.items c.args.ring c.index_mut.result.now c.requires.ring c.index_mut.ensures.value
    ∙ ap (λ (o : Option Binding). Some (option_map bound_of o)) (sym c.take.ensures.value ∙ c.in-Some.is) in
    subst (λ (os : List (Option Bound)). IsTable os (λ (x : List ℕ). get_by_text c.remove.new.self x))
    (sym (map-set (λ (o : Option Binding). option_map bound_of o) c.args.bound.now.items c.args.ring c.take.new.self
    ∙ ap (λ (o : Option Binding). slice_set (bounds_of c.args.bound.now.items) c.args.ring (option_map bound_of o)) c.take.ensures.after))
    (forgot_table (bounds_of c.args.bound.now.items) (λ (x : List ℕ). get_by_text c.args.rings.now x) (λ (x : List ℕ). get_by_text c.remove.new.self x) c.args.ring (bound_of c.in-Some.binding) c.requires.table entry
    (λ y. hash_map_updates_text c.as_str.result.now c.args.rings.now c.remove.new.self None c.remove.ensures.updates y
    ∙ ap (λ (x : List ℕ). cond (bytes_eq x y) None (get_by_text c.args.rings.now y)) c.as_str.ensures.value))

pub returns-clause-new : goal.returns-clause-new
returns-clause-new c =
    map-set (λ (o : Option Binding). option_map bound_of o) c.args.bound.now.items c.args.ring c.take.new.self
    ∙ ap (λ (o : Option Binding). slice_set (bounds_of c.args.bound.now.items) c.args.ring (option_map bound_of o)) c.take.ensures.after
