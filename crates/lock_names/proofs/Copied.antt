-- A table that is copied ring by ring.
use Rattle.std.proofs.Common.{◌≡◌, ℕ, ◌+◌, ◌^◌, ◌<◌, ◌≤◌, List, [], ◌∷◌, ◌++◌, length, take, get_or, Option, Some, None, refl, sym, ◌∙◌, ap, arith}
use Rattle.std.specs.Prelude.{slice_get, option_map, string_bytes}
use Rattle.std.proofs.lemmas.List.{length-map, take_more, take_all}
use Rattle.std.proofs.lemmas.Option.{slice_get-map, slice_get_read, slice_get_within, get_or_from_slice_get}
use Rattle.lock_names.specs.declared.table.Binding.{Binding}
use Rattle.name_bindings.specs.Bindings.{Bound, found, AreNamedOnce}
use Rattle.lock_names.specs.Table.{bound_of, bounds_of}
use Rattle.name_bindings.proofs.Found.{found_nowhere}
use Rattle.name_bindings.proofs.FixedNames.{taken_entry}
use Rattle.lock_names.proofs.Begins.{take_few}

-- the entry of a binding that was read
pub entry : (bs : List (Option Binding)) (k : ℕ) (o : Option Binding) → k < length bs → o ≡ get_or bs k o → slice_get (bounds_of bs) k ≡ Some (option_map bound_of o)
entry bs k o lt is =
    slice_get-map (λ (x : Option Binding). option_map bound_of x) bs k
    ∙ ap (λ (x : Option (Option Binding)). option_map (λ (y : Option Binding). option_map bound_of y) x) (slice_get_read bs (length bs) k o refl lt is)

pub few_copied : (bs : List (Option Binding)) (k : ℕ) (now : List (Option Bound)) → now ≡ take k (bounds_of bs) → length bs ≤ 1000000 → length now < 2 ^ 32
few_copied bs k now e le =
    let some : length now ≡ length (take k (bounds_of bs)) = ap (λ (x : List (Option Bound)). length x) e in
    let least : length (take k (bounds_of bs)) ≤ length (bounds_of bs) = take_few k (bounds_of bs) in
    let many : length (bounds_of bs) ≡ length bs = length-map bs (λ (o : Option Binding). option_map bound_of o) in
    omega arith

pub not_copied : (bs : List (Option Binding)) (k : ℕ) (o : Option Binding) (b : Binding) (now : List (Option Bound)) → k < length bs → o ≡ get_or bs k o → o ≡ Some b → now ≡ take k (bounds_of bs) → AreNamedOnce (bounds_of bs) →
    found (string_bytes b.name) now ≡ None
not_copied bs k o b now lt is some e once =
    let here : slice_get (bounds_of bs) k ≡ Some (Some (bound_of b)) = entry bs k o lt is ∙ ap (λ (x : Option Binding). Some (option_map bound_of x)) some in
    found_nowhere (string_bytes b.name) now (λ i d f same.
    let r = taken_entry (bounds_of bs) k i (Some d) (ap (λ (x : List (Option Bound)). slice_get x i) (sym e) ∙ f) in
    let at : i ≡ k = once i k d (bound_of b) r.1 here same in
    let before : i < k = r.0 in
    omega arith)

pub copied_more : (bs : List (Option Binding)) (k : ℕ) (o : Option Binding) (now later : List (Option Bound)) → k < length bs → o ≡ get_or bs k o → now ≡ take k (bounds_of bs) → later ≡ now ++ option_map bound_of o ∷ [] →
    later ≡ take (k + 1) (bounds_of bs)
copied_more bs k o now later lt is e f =
    let here : slice_get (bounds_of bs) k ≡ Some (option_map bound_of o) = entry bs k o lt is in
    f ∙ ap (λ (x : List (Option Bound)). x ++ option_map bound_of o ∷ []) e
    ∙ sym (take_more (bounds_of bs) k (option_map bound_of o) (slice_get_within (bounds_of bs) k (option_map bound_of o) here)
    ∙ ap (λ (x : Option Bound). take k (bounds_of bs) ++ x ∷ []) (get_or_from_slice_get (bounds_of bs) k (option_map bound_of o) (option_map bound_of o) here))

pub copied_all : (bs : List (Option Binding)) (k : ℕ) (now : List (Option Bound)) → length bs ≤ k → now ≡ take k (bounds_of bs) → now ≡ bounds_of bs
copied_all bs k now le e =
    let many : length (bounds_of bs) ≡ length bs = length-map bs (λ (o : Option Binding). option_map bound_of o) in
    e ∙ take_all k (bounds_of bs) (omega arith)
