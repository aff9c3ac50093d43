use Rattle.std.proofs.Common.{◌≡◌, ℕ, ◌+◌, ◌^◌, ◌<◌, List, Option, map, length, sym, subst, arith}
use Rattle.std.specs.Prelude.{string_bytes, option_map}
use Rattle.std.proofs.lemmas.List.{length-map}
use Rattle.lock_names.specs.declared.table.Binding.{Binding}
use Rattle.lock_names.specs.Names.{Bound}
use Rattle.lock_names.specs.Table.{bound_of, bounds_of}
use Rattle.name_bindings.specs.Bindings.{AreNamedOnce}
use Rattle.lock_names.proofs.Restores.{pool_from, restored_many, restored_named, restored_kept, restored_right, cannot_name}
use Rattle.lock_names.proofs.names.Names.restore.Goals as goal

pub check_names-requires-clause-fixed : goal.check_names-requires-clause-fixed
check_names-requires-clause-fixed c = λ i at.
    let ns : List (List ℕ) = map string_bytes c.args.fixed.now in
    let os = bounds_of c.args.pool.now in
    let fixed : length c.args.fixed.now ≡ length ns = sym (length-map c.args.fixed.now string_bytes) in
    pool_from ns os c.in-Ok.table (length c.args.fixed.now) i c.in-Ok.ensures.ok fixed at

pub returns-in-Err-check_names-clause-why : goal.returns-in-Err-check_names-clause-why
returns-in-Err-check_names-clause-why c =
    let vs = c.args.locks in
    let ns : List (List ℕ) = map string_bytes c.args.fixed.now in
    let os = bounds_of c.args.pool.now in
    let fixed : length c.args.fixed.now ≡ length ns = sym (length-map c.args.fixed.now string_bytes) in
    cannot_name vs ns os c.in-Ok.table (length c.args.fixed.now) c.args.top c.in-Err-check_names.why c.in-Ok.ensures.ok fixed c.in-Err-check_names.ensures.why

pub invariant_of-result : goal.invariant_of-result
invariant_of-result c =
    let vs = c.args.locks in
    let ns : List (List ℕ) = map string_bytes c.args.fixed.now in
    let os = bounds_of c.args.pool.now in
    let fixed : length c.args.fixed.now ≡ length ns = sym (length-map c.args.fixed.now string_bytes) in
    let pool : length os ≡ length c.args.pool.now = length-map c.args.pool.now (λ (o : Option Binding). option_map bound_of o) in
    let n = c.count-count.ensures in
    let least = c.if-count-fixed.false in
    let most = c.if-count-fixed-2.false in
    let count : length vs ≡ length ns + length os = omega arith in
    let once : AreNamedOnce c.in-Ok.table = subst (λ (x : List (Option Bound)). AreNamedOnce x) (sym c.in-Ok.ensures.ok) c.in-Ok.ensures.once in
    let lt : c.args.top < 2 ^ 63 = let t = c.if-top-ge-TOP_LIMIT.false in omega arith in
    let named = restored_named vs c.are_kept.ensures.0 c.in-Ok.table (length c.args.fixed.now) c.args.top c.are_kept.ensures.1 (restored_many ns os c.in-Ok.table (length vs) c.in-Ok.ensures.ok count) once c.in-Ok-check_names.ensures.ok in
    restored_kept vs c.are_kept.ensures.0 c.in-Ok.table (length c.args.fixed.now) c.args.top c.are_kept.ensures.1 named (omega arith) lt

pub returns-clause-ok : goal.returns-clause-ok
returns-clause-ok c =
    let vs = c.args.locks in
    let ns : List (List ℕ) = map string_bytes c.args.fixed.now in
    let os = bounds_of c.args.pool.now in
    let fixed : length c.args.fixed.now ≡ length ns = sym (length-map c.args.fixed.now string_bytes) in
    let pool : length os ≡ length c.args.pool.now = length-map c.args.pool.now (λ (o : Option Binding). option_map bound_of o) in
    let n = c.count-count.ensures in
    let least = c.if-count-fixed.false in
    let most = c.if-count-fixed-2.false in
    let count : length vs ≡ length ns + length os = omega arith in
    let once : AreNamedOnce c.in-Ok.table = subst (λ (x : List (Option Bound)). AreNamedOnce x) (sym c.in-Ok.ensures.ok) c.in-Ok.ensures.once in
    let lt : c.args.top < 2 ^ 63 = let t = c.if-top-ge-TOP_LIMIT.false in omega arith in
    let named = restored_named vs c.are_kept.ensures.0 c.in-Ok.table (length c.args.fixed.now) c.args.top c.are_kept.ensures.1 (restored_many ns os c.in-Ok.table (length vs) c.in-Ok.ensures.ok count) once c.in-Ok-check_names.ensures.ok in
    restored_right vs ns os c.in-Ok.table (length c.args.fixed.now) c.args.top c.in-Ok.ensures.ok fixed named (c.are_counted.ensures.yes c.if-not-are_counted.false) lt
