use Rattle.std.proofs.Common.{◌≡◌, ℕ, List, [], ◌∷◌, length, map, take, Some, slice_get, ap, ◌∙◌, refl}
use Rattle.std.proofs.lemmas.Option.{slice_get-map}
use Rattle.std.specs.Prelude.{Result, Ok, Err, IfOk}
use Rattle.ring_farm.specs.Runs.{first_refusal}

pub refusal_here : {A E : Type 0} (all : List (Result A E)) (rs : List A) (e : E) → take (length rs) all ≡ map (λ x. Ok x) rs → slice_get all (length rs) ≡ Some (Err e) → first_refusal all ≡ Some e
refusal_here [] [] e so at = cc
refusal_here [] (r ∷ rs) e so at = cc
refusal_here {A = A} {E = E} (x ∷ all) [] e so at = let same : x ≡ Err e = cc in ap (λ (y : Result A E). first_refusal (y ∷ all)) same
refusal_here {A = A} {E = E} (x ∷ all) (r ∷ rs) e so at =
    let same : x ≡ Ok r = cc in
    let rest : take (length rs) all ≡ map {A = A} (λ x. Ok x) rs = cc in
    ap (λ (y : Result A E). first_refusal (y ∷ all)) same ∙ refusal_here all rs e rest at

-- the entry at a place of the outcomes is at that place of the results
pub ok_place : {A E : Type 0} (rs : List (Result A E)) (xs : List A) (i : ℕ) (x : A) → rs ≡ map (λ y. Ok y) xs → slice_get xs i ≡ Some x → slice_get rs i ≡ Some (Ok x)
ok_place {A = A} {E = E} rs xs i x is at =
    let m = slice_get-map {A = A} {B = Result A E} (λ y. Ok y) xs i in
    ap (λ (ys : List (Result A E)). slice_get ys i) is ∙ (m ∙ rw at refl)

pub ok_then : {A E : Type 0} (P S : A → Type 0) (r : Result A E) → ((v : A) → P v → S v) → IfOk r P → IfOk r S
ok_then P S (Ok v) f p = f v p
ok_then P S (Err e) f p = tt
