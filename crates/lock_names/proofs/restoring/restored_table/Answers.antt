use Rattle.std.proofs.Common.{◌≡◌, ℕ, ◌+◌, ◌≤◌, ◌++◌, ◌⊎◌, List, Option, map, length, ◌∙◌, ap, subst, arith}
use Rattle.std.specs.Prelude.{string_bytes}
use Rattle.std.proofs.lemmas.List.{length-map}
use Rattle.lock_names.specs.Names.{Bound}
use Rattle.name_bindings.specs.Bindings.{fixed_names, AreNamedOnce}
use Rattle.lock_names.specs.Table.{bounds_of}
use Rattle.lock_names.specs.declared.restoring.NotRestored.TheVariants as not_restored
use Rattle.lock_names.proofs.Begins.{fixed_many}
use Rattle.lock_names.proofs.Restores.{names_wrong}
use Rattle.lock_names.proofs.restoring.restored_table.Goals as goal

pub returns-in-Err-clause-why : goal.returns-in-Err-clause-why
returns-in-Err-clause-why c =
    names_wrong (map string_bytes c.args.fixed.now) (bounds_of c.args.pool.now) c.in-Err.why c.not_added.result c.in-Err.ensures.why c.not_added.ensures.twice c.not_added.ensures.memory

pub add_pool_names-requires : goal.add_pool_names-requires
add_pool_names-requires c =
    let ns : List (List ℕ) = map string_bytes c.args.fixed.now in
    let same : length c.add_names.new.table ≡ length (fixed_names ns) = ap (λ (x : List (Option Bound)). length x) c.in-Ok.ensures.ok in
    let many : length (fixed_names ns) ≡ length ns = fixed_many ns in
    let all : length ns ≡ length c.args.fixed.now = length-map c.args.fixed.now string_bytes in
    let few : length c.args.fixed.now + length c.args.pool.now ≤ 1000000 = c.requires.few in
    omega arith

pub returns-in-Err-add_pool_names-clause-why : goal.returns-in-Err-add_pool_names-clause-why
returns-in-Err-add_pool_names-clause-why c =
    subst (λ (x : List (Option Bound)). ((c.in-Err-add_pool_names.why ≡ not_restored.Twice) × ¬ AreNamedOnce (x ++ bounds_of c.args.pool.now)) ⊎ (c.in-Err-add_pool_names.why ≡ not_restored.Memory))
    c.in-Ok.ensures.ok c.in-Err-add_pool_names.ensures.why

pub returns-clause-ok : goal.returns-clause-ok
returns-clause-ok c = c.in-Ok-add_pool_names.ensures.ok ∙ ap (λ (x : List (Option Bound)). x ++ bounds_of c.args.pool.now) c.in-Ok.ensures.ok

pub returns-clause-once : goal.returns-clause-once
returns-clause-once c =
    subst (λ (x : List (Option Bound)). AreNamedOnce x) (c.in-Ok-add_pool_names.ensures.ok ∙ ap (λ (x : List (Option Bound)). x ++ bounds_of c.args.pool.now) c.in-Ok.ensures.ok) c.are_apart.ensures
