-- A walk over the entries of an array, entry by entry.
use Rattle.std.proofs.Common.{◌≡◌, ℕ, ◌+◌, ◌++◌, ◌∷◌, List, [], length, refl, sym, ◌∙◌, ap, append_assoc, Result, Ok, Err, map, add-one}
use Rattle.std.proofs.lemmas.List.{length-map}
use Rattle.serde_json.specs.Data.{Data, Items, item}
use Rattle.serde_json.specs.View.{items_of, items_view, view}
use Rattle.serde_json.specs.declared.value.Value.{Value}
use Rattle.ring_settings.specs.Walk.{each_from, items_count, then_with}
use Rattle.ring_settings.specs.declared.faults.SettingsError.{SettingsError}

-- the entries that were read, and then the rest
abbrev pub with_rest : {A : Type 0} → List A → Result (List A) SettingsError → Result (List A) SettingsError
with_rest done rest = then_with rest (λ later. Ok (done ++ later))

pub with_rest-nil : {A : Type 0} (rest : Result (List A) SettingsError) → rest ≡ with_rest [] rest
with_rest-nil (Ok later) = refl
with_rest-nil (Err e) = refl

with_rest-push : {A : Type 0} (done : List A) (a : A) (rest : Result (List A) SettingsError) →
    with_rest done (then_with rest (λ later. Ok (a ∷ later))) ≡ with_rest (done ++ a ∷ []) rest
with_rest-push done a (Ok later) = ap Ok (sym (append_assoc done (a ∷ []) later))
with_rest-push done a (Err e) = refl

-- an entry that is read joins what was read
pub each_more : {A : Type 0} (entry : ℕ → Data → Result A SettingsError) (place : ℕ) (d : Data) (ds : Items) (a : A) (done : List A) (all : Result (List A) SettingsError) →
    entry place d ≡ Ok a → all ≡ with_rest done (each_from entry place (item d ds)) → all ≡ with_rest (done ++ a ∷ []) (each_from entry (place + 1) ds)
each_more entry place d ds a done all is h = h ∙ rw is (with_rest-push done a (each_from entry (place + 1) ds))

-- an entry that is refused ends the walk
pub each_stops : {A : Type 0} (entry : ℕ → Data → Result A SettingsError) (place : ℕ) (d : Data) (ds : Items) (e : SettingsError) (done : List A) (all : Result (List A) SettingsError) →
    entry place d ≡ Err e → all ≡ with_rest done (each_from entry place (item d ds)) → all ≡ Err e
each_stops entry place d ds e done all is h = h ∙ rw is refl

items_count-items_of : (ds : List Data) → items_count (items_of ds) ≡ length ds
items_count-items_of [] = refl
items_count-items_of (d ∷ ds) = ap (λ n. n + 1) (items_count-items_of ds) ∙ add-one (length ds)

pub items_count_of_view : (vs : List Value) → items_count (items_view vs) ≡ length vs
items_count_of_view vs = items_count-items_of (map view vs) ∙ length-map vs view
