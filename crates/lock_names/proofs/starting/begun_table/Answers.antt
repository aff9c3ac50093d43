use Rattle.std.proofs.Common.{◌≡◌, ℕ, ◌-◌, List, map, length, Option, Some, sym, subst}
use Rattle.std.specs.Prelude.{slice_get, string_bytes}
use Rattle.std.proofs.lemmas.List.{length-map}
use Rattle.lock_names.specs.Names.{Bound}
use Rattle.name_bindings.specs.Bindings.{frees}
use Rattle.lock_names.proofs.Begins.{names_within, table_within}
use Rattle.name_bindings.proofs.FixedNames.{begun_both, distinct}
use Rattle.lock_names.proofs.starting.begun_table.Goals as goal

pub add_pool-requires-clause-more : goal.add_pool-requires-clause-more
add_pool-requires-clause-more c =
    table_within (map string_bytes c.args.names.now) c.add_names.new.table c.args.count c.in-Ok.ensures.ok (names_within string_bytes c.args.names.now c.args.count c.requires.more)

pub returns-clause-ok : goal.returns-clause-ok
returns-clause-ok c =
    begun_both (map string_bytes c.args.names.now) (length c.args.names.now) c.args.count c.add_names.new.table c.add_pool.new.table c.in-Ok.ensures.ok c.in-Ok-add_pool.ensures.ok (sym (length-map c.args.names.now string_bytes))

pub returns-clause-apart : goal.returns-clause-apart
returns-clause-apart c =
    let ns : List (List ℕ) = map string_bytes c.args.names.now in
    let is = begun_both ns (length c.args.names.now) c.args.count c.add_names.new.table c.add_pool.new.table c.in-Ok.ensures.ok c.in-Ok-add_pool.ensures.ok (sym (length-map c.args.names.now string_bytes)) in
    distinct ns (frees (c.args.count - length c.args.names.now))
    (subst (λ (t : List (Option Bound)). (i j : ℕ) (b d : Bound) → slice_get t i ≡ Some (Some b) → slice_get t j ≡ Some (Some d) → b.name ≡ d.name → i ≡ j) is c.are_apart.ensures)
