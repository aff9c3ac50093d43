use Rattle.std.proofs.Common.{◌≡◌, ℕ, ◌≤◌, ◌-◌, ◌++◌, List, map, length, refl, ◌∙◌, ap, arith}
use Rattle.std.specs.Prelude.{string_bytes}
use Rattle.std.proofs.lemmas.List.{length-map}
use Rattle.name_bindings.specs.Bindings.{fixed_names, frees}
use Rattle.lock_names.proofs.Begins.{begins, begins_kept}
use Rattle.lock_names.proofs.names.Names.begin.Goals as goal

pub begun_table-requires-clause-few : goal.begun_table-requires-clause-few
begun_table-requires-clause-few c = let few = c.are_kept.ensures.1.few in let n = c.count-count.ensures in omega arith

pub invariant_of-result : goal.invariant_of-result
invariant_of-result c =
    let vs = c.args.locks in
    let ns : List (List ℕ) = map string_bytes c.args.fixed.now in
    let many : length ns ≡ length c.args.fixed.now = length-map c.args.fixed.now string_bytes in
    let n = c.count-count.ensures in
    let le : length ns ≤ length vs = let t = c.if-count-fixed.false in omega arith in
    let fixed : length c.args.fixed.now ≡ length ns = omega arith in
    let table : c.in-Ok-begun_table.table ≡ fixed_names ns ++ frees (length vs - length ns) = c.in-Ok-begun_table.ensures.ok ∙ ap (λ (k : ℕ). fixed_names ns ++ frees k) (omega arith) in
    let top = c.in-Ok.ensures.ok in
    begins_kept vs c.are_kept.ensures.0 ns c.in-Ok-begun_table.table (length c.args.fixed.now) c.in-Ok.top c.are_kept.ensures.1 c.in-Ok.ensures.free c.in-Ok-begun_table.ensures.apart
    (begins vs ns c.in-Ok-begun_table.table (length c.args.fixed.now) c.in-Ok.top fixed table le top) c.in-Ok.ensures.few (omega arith)

pub returns-in-Err-clause-why : goal.returns-in-Err-clause-why
returns-in-Err-clause-why c = c.in-Err.ensures.why (map string_bytes c.args.fixed.now)

pub returns-clause-ok : goal.returns-clause-ok
returns-clause-ok c =
    let vs = c.args.locks in
    let ns : List (List ℕ) = map string_bytes c.args.fixed.now in
    let many : length ns ≡ length c.args.fixed.now = length-map c.args.fixed.now string_bytes in
    let n = c.count-count.ensures in
    let le : length ns ≤ length vs = let t = c.if-count-fixed.false in omega arith in
    let fixed : length c.args.fixed.now ≡ length ns = omega arith in
    let table : c.in-Ok-begun_table.table ≡ fixed_names ns ++ frees (length vs - length ns) = c.in-Ok-begun_table.ensures.ok ∙ ap (λ (k : ℕ). fixed_names ns ++ frees k) (omega arith) in
    let top = c.in-Ok.ensures.ok in
    record { locks = refl; state = begins vs ns c.in-Ok-begun_table.table (length c.args.fixed.now) c.in-Ok.top fixed table le top }
