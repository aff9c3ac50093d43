-- Facts on the parts of a walk that comes to its end.
use Rattle.std.proofs.Common.{◌≡◌, ℕ, ◌+◌, ◌∷◌, List, [], length, refl, sym, ◌∙◌, ap, Result, Ok, Err, Option, Some, None, add-one, Bool, true, false, cond, ◌&&◌}
use Rattle.std.specs.Prelude.{option_and_then, All}
use Rattle.std.specs.Option.{ok_or}
use Rattle.std.proofs.lemmas.List.Elements.{All-nil, All-cons, All-same}
use Rattle.serde_json.specs.Data.{Data, Items, no_items, item}
use Rattle.ring_settings.specs.Walk.{each_from, items_count, then_with}
use Rattle.ring_settings.specs.declared.faults.SettingsError.{SettingsError}

-- both parts of a test hold
pub both : (a b : Bool) → (a && b) ≡ true → (a ≡ true) × (b ≡ true)
both true b h = (refl, h)
both false b h = let no : ⊥ = cc in absurd no

-- a choice that is not a refusal
pub chosen : {A : Type 0} (test : Bool) (r : Result A SettingsError) (e : SettingsError) (a : A) → cond test r (Err e) ≡ Ok a → (test ≡ true) × (r ≡ Ok a)
chosen true r e a h = (refl, h)
chosen false r e a h = let no : ⊥ = cc in absurd no

-- both steps of a walk are read
pub then_with-ok : {A B : Type 0} (r : Result A SettingsError) (next : A → Result B SettingsError) (b : B) → then_with r next ≡ Ok b → (a : A) × (r ≡ Ok a) × (next a ≡ Ok b)
then_with-ok (Ok a) next b h = (a, refl, h)
then_with-ok (Err e) next b h = let no : ⊥ = cc in absurd no

-- a choice that is something
pub kept : {A : Type 0} (test : Bool) (o : Option A) (a : A) → cond test o None ≡ Some a → (test ≡ true) × (o ≡ Some a)
kept true o a h = (refl, h)
kept false o a h = let no : ⊥ = cc in absurd no

pub option_and_then-some : {A B : Type 0} (next : A → Option B) (o : Option A) (b : B) → option_and_then next o ≡ Some b → (a : A) × (o ≡ Some a) × (next a ≡ Some b)
option_and_then-some next (Some a) b h = (a, refl, h)
option_and_then-some next None b h = let no : ⊥ = cc in absurd no

pub ok_or-ok : {A : Type 0} (o : Option A) (e : SettingsError) (a : A) → ok_or o e ≡ Ok a → o ≡ Some a
ok_or-ok (Some b) e a h = cc
ok_or-ok None e a h = let no : ⊥ = cc in absurd no

-- a fact on each entry that is read holds of all of them
pub each_from-all : {A : Type 0} (P : A → Type 0) (entry : ℕ → Data → Result A SettingsError) →
    ((place : ℕ) (d : Data) (a : A) → entry place d ≡ Ok a → P a) →
    (place : ℕ) (ds : Items) (xs : List A) → each_from entry place ds ≡ Ok xs → All P xs
each_from-all {A} P entry of_entry place no_items xs h = let is : xs ≡ [] = cc in All-same P xs [] is (All-nil P)
each_from-all {A} P entry of_entry place (item d ds) xs h =
    let first = then_with-ok (entry place d) (λ (a : A). then_with (each_from entry (place + 1) ds) (λ rest. Ok (a ∷ rest))) xs h in
    let later = then_with-ok (each_from entry (place + 1) ds) (λ (rest : List A). Ok (first.0 ∷ rest)) xs first.2 in
    let is : xs ≡ first.0 ∷ later.0 = cc (later.2) in
    All-same P xs (first.0 ∷ later.0) is (All-cons P first.0 later.0 (of_entry place d first.0 first.1) (each_from-all P entry of_entry (place + 1) ds later.0 later.1))

-- as many are read as there are entries
pub each_from-length : {A : Type 0} (entry : ℕ → Data → Result A SettingsError) →
    (place : ℕ) (ds : Items) (xs : List A) → each_from entry place ds ≡ Ok xs → length xs ≡ items_count ds
each_from-length {A} entry place no_items xs h = let is : xs ≡ [] = cc in rw is refl
each_from-length {A} entry place (item d ds) xs h =
    let first = then_with-ok (entry place d) (λ (a : A). then_with (each_from entry (place + 1) ds) (λ rest. Ok (a ∷ rest))) xs h in
    let later = then_with-ok (each_from entry (place + 1) ds) (λ (rest : List A). Ok (first.0 ∷ rest)) xs first.2 in
    let is : xs ≡ first.0 ∷ later.0 = cc (later.2) in
    rw is (sym (add-one (length later.0)) ∙ ap (λ n. n + 1) (each_from-length entry (place + 1) ds later.0 later.1))
