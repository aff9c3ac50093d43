-- The wanted holds of all locks, one lock after the other.
use Rattle.std.proofs.Common.{◌≡◌, ℕ, ◌+◌, ◌<◌, List, ◌++◌, length, map, drop, get_or, append_assoc, sym, ◌∙◌, ap, arith, Vec, Global}
use Rattle.std.proofs.lemmas.List.{drop_more, length-map}
use Rattle.std.proofs.Math.ListN.{get_or-map}
use Rattle.chain_readers.specs.declared.holds.Hold.{Hold}
use Rattle.chain_readers.specs.declared.hold_lines.Choice.{Choice}
use Rattle.chain_readers.specs.Labels.{chosen_of, all_chosen}

abbrev items : Vec Hold Global → List Hold
items v = v.items

pub lock_chosen : (choice : Choice) (locks : List (Vec Hold Global)) (i : ℕ) (v : Vec Hold Global) (holds before all : List Hold) → i < length locks → v ≡ get_or locks i v → holds ≡ v.items →
    before ++ all_chosen choice i (drop i (map items locks)) ≡ all → (before ++ chosen_of choice i holds) ++ all_chosen choice (i + 1) (drop (i + 1) (map items locks)) ≡ all
lock_chosen choice locks i v holds before all lt is same so =
    let many = length-map locks items in
    let rest : List Hold = all_chosen choice (i + 1) (drop (i + 1) (map items locks)) in
    append_assoc before (chosen_of choice i holds) rest
    ∙ ap (λ (u : List Hold). before ++ u)
    (ap (λ (u : List Hold). chosen_of choice i u ++ rest) (same ∙ ap items is ∙ sym (get_or-map items locks i v))
    ∙ sym (ap (all_chosen choice i) (drop_more (map items locks) i (items v) (omega (arith, many, lt)))))
    ∙ so
