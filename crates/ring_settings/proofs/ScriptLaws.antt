-- Arrays that are not actions by their length.
use Rattle.std.proofs.Common.{◌≡◌, ◌≢◌, ℕ, List, [], ◌∷◌, length, refl, true, None, Some, ◌≤◌, arith}
use Rattle.std.specs.Prelude.{nat_le}
use Rattle.std.proofs.lemmas.Bool.Decides.{nat_tests}
use Rattle.serde_json.specs.View.{items_view}
use Rattle.serde_json.specs.declared.value.Value.{Value}
use Rattle.ring_settings.specs.Limits.{action_limit}
use Rattle.ring_state.specs.Sizes.{Size}
use Rattle.ring_settings.specs.Scripts.{action_of_items, script_items, script_entry}
use Rattle.ring_settings.specs.Walk.{each_from, items_count}
use Rattle.ring_settings.proofs.Each.{items_count_of_view}

-- an action has two entries or four
pub action_of_items_none : (sizes : List Size) (vs : List Value) → length vs ≢ 2 → length vs ≢ 4 → None ≡ action_of_items sizes (items_view vs)
action_of_items_none sizes [] two four = refl
action_of_items_none sizes (a ∷ []) two four = refl
action_of_items_none sizes (a ∷ b ∷ []) two four = absurd (two refl)
action_of_items_none sizes (a ∷ b ∷ c ∷ []) two four = refl
action_of_items_none sizes (a ∷ b ∷ c ∷ d ∷ []) two four = absurd (four refl)
action_of_items_none sizes (a ∷ b ∷ c ∷ d ∷ e ∷ vs) two four = refl

-- a script within the limit is read entry by entry
pub script_items_each : (sizes : List Size) (seat : ℕ) (vs : List Value) → length vs ≤ action_limit →
    script_items sizes seat (Some (items_view vs)) ≡ each_from (script_entry sizes seat) 0 (items_view vs)
script_items_each sizes seat vs low =
    let count : items_count (items_view vs) ≡ length vs = items_count_of_view vs in
    let within : nat_le (items_count (items_view vs)) action_limit ≡ true = grind (arith, nat_tests) in
    rw within refl
