-- Shapes, one after the other.
use Rattle.std.proofs.Common.{◌≡◌, ℕ, zero, suc, ◌+◌, ◌<◌, List, [], ◌∷◌, ◌++◌, length, take, get_or, refl, sym, ◌∙◌, ap, arith}
use Rattle.std.specs.List.{flat_map}
use Rattle.std.proofs.lemmas.List.{append-nil, take_more}
use Rattle.std.proofs.lemmas.List.Concat.{flat_map-append}
use Rattle.repair_texts.specs.declared.columns.Row.{Row}
use Rattle.repair_picture.specs.Growth.{curve, styles}
use Rattle.repair_picture.specs.declared.shapes.Shape.{Shape}
use Rattle.repair_picture.specs.declared.shapes.Style.{Style}

-- the shapes of one more of a list
pub flat_more : {X : Type 0} (f : X → List Shape) (xs : List X) (i : ℕ) (d : X) → i < length xs →
    flat_map f (take (i + 1) xs) ≡ flat_map f (take i xs) ++ f (get_or xs i d)
flat_more f xs i d lt =
    rw (take_more xs i d lt)
    (flat_map-append f (take i xs) (get_or xs i d ∷ []) ∙ ap (λ (u : List Shape). flat_map f (take i xs) ++ u) (append-nil (f (get_or xs i d))))

-- an entry of a list is the same, whatever is read past its end
pub same_entry : {X : Type 0} (xs : List X) (i : ℕ) (d e : X) → i < length xs → get_or xs i d ≡ get_or xs i e
same_entry [] i d e l = absurd (omega arith)
same_entry (x ∷ xs) zero d e l = refl
same_entry (x ∷ xs) (suc i) d e l = same_entry xs i d e (omega arith)

-- one curve more
pub curve_more : (rows : List Row) (i : ℕ) (s : Style) (now new : List Shape) → i < 7 → now ≡ flat_map (curve rows) (take i styles) →
    s ≡ get_or styles i s → new ≡ now ++ curve rows s → new ≡ flat_map (curve rows) (take (i + 1) styles)
curve_more rows i s now new l was is e =
    e ∙ ap (λ (x : List Shape). x ++ curve rows s) was ∙ ap (λ (x : Style). flat_map (curve rows) (take i styles) ++ curve rows x) is
    ∙ sym (flat_more (curve rows) styles i s l)
