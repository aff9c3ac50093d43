use Rattle.std.proofs.Common.{◌≡◌, ℕ, map, List, Option, Some, inl, refl, sym, ◌∙◌, ap}
use Rattle.std.specs.Prelude.{slice_get, is_some, string_bytes}
use Rattle.name_bindings.specs.Bindings.{ring_of}
use Rattle.name_bindings.proofs.FixedNames.{mapped_entry, found_twice, not_yet, name_added, item_entry, all_names}
use Rattle.name_check.proofs.begin.add_names.Goals as goal

pub returns-then-is_some-clause-why : goal.returns-then-is_some-clause-why
returns-then-is_some-clause-why c =
    let ns : List (List ℕ) = map string_bytes c.args.names.now in
    let k = c.loop-name.name-index in
    let entry : slice_get ns k ≡ Some c.as_str.result.now = mapped_entry string_bytes c.args.names.now k c.name-item.result c.loop-name-test.true c.name-item.is ∙ ap (λ (x : List ℕ). Some x) (sym c.as_str.ensures.value) in
    let there = ap (λ (o : Option ℕ). is_some o) (sym c.find.ensures) ∙ sym c.is_some.ensures ∙ c.if-is_some.true in
    inl (refl, λ apart. found_twice ns k c.as_str.result.now c.loop-name.table entry c.loop-name.invariant there apart)

pub add_name-requires : goal.add_name-requires
add_name-requires c =
    not_yet c.as_str-in-loop-name.result.now c.loop-name.table
    (ap (λ (x : List ℕ). is_some (ring_of x c.loop-name.table)) (c.as_str-in-loop-name.ensures.value ∙ sym c.as_str.ensures.value) ∙ ap (λ (o : Option ℕ). is_some o) (sym c.find.ensures) ∙ sym c.is_some.ensures ∙ c.if-is_some.false)

pub loop-name-preserved : goal.loop-name-preserved
loop-name-preserved c =
    let ns : List (List ℕ) = map string_bytes c.args.names.now in
    let k = c.loop-name.name-index in
    let entry : slice_get ns k ≡ Some c.as_str-in-loop-name.result.now = mapped_entry string_bytes c.args.names.now k c.name-item.result c.loop-name-test.true c.name-item.is ∙ ap (λ (x : List ℕ). Some x) (sym c.as_str-in-loop-name.ensures.value) in
    let s = item_entry ns k c.as_str-in-loop-name.result.now entry in
    name_added ns k c.as_str-in-loop-name.result.now c.loop-name.table c.add_name.new.table s.0 s.1 c.loop-name.invariant c.in-Ok.ensures

pub returns-clause-ok : goal.returns-clause-ok
returns-clause-ok c = all_names string_bytes c.args.names.now c.loop-name.name-index c.loop-name.table c.loop-name-test.false c.loop-name.invariant
