use Rattle.std.proofs.Common.{ℕ, List, Option, Some, None, sym, subst, arith}
use Rattle.std.specs.Prelude.{string_bytes, option_map}
use Rattle.std.specs.HashMap.{get_by_text}
use Rattle.std.proofs.lemmas.List.{map-set}
use Rattle.std.proofs.lemmas.Map.Text.{hash_map_updates_text}
use Rattle.name_bindings.specs.Bindings.{Bound}
use Rattle.name_check.specs.declared.table.Binding.{Binding}
use Rattle.name_check.specs.Tables.{bound_of, bounds_of, IsTable}
use Rattle.name_check.proofs.Tabling.{bound_table, entry_within}
use Rattle.name_check.proofs.table.bind_among.Goals as goal

pub index_mut-requires : goal.index_mut-requires
index_mut-requires c =
    let lt = entry_within c.args.bound.now.items c.args.ring None c.requires.free in
    let n = c.args.bound.now.ok.0 in
    omega arith

pub returns-clause-table : goal.returns-clause-table
returns-clause-table c =
    subst (λ (os : List (Option Bound)). IsTable os (λ (x : List ℕ). get_by_text c.insert.new.self x))
    (sym (map-set (λ (o : Option Binding). option_map bound_of o) c.args.bound.now.items c.args.ring (Some c.args.binding)))
    (bound_table (bounds_of c.args.bound.now.items) (λ (x : List ℕ). get_by_text c.args.rings.now x) (λ (x : List ℕ). get_by_text c.insert.new.self x) c.args.ring (string_bytes c.args.key) (bound_of c.args.binding)
    c.requires.table c.requires.free c.requires.name c.requires.unused (hash_map_updates_text (string_bytes c.args.key) c.args.rings.now c.insert.new.self (Some c.args.ring) c.in-Ok.ensures.updates))

pub returns-clause-ok : goal.returns-clause-ok
returns-clause-ok c = map-set (λ (o : Option Binding). option_map bound_of o) c.args.bound.now.items c.args.ring (Some c.args.binding)
