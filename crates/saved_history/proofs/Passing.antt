-- A list written item by item: the part that is written so far, and the rest.
use Rattle.std.proofs.Common.{◌≡◌, ℕ, ◌+◌, ◌<◌, ◌≤◌, List, [], ◌∷◌, ◌++◌, length, drop, get_or, Option, Err, sym, ap, ◌∙◌, subst}
use Rattle.std.specs.Io.KnownBytes.{Appends}
use Rattle.std.proofs.lemmas.List.{drop_more, drop_all}
use Rattle.text_lines.specs.declared.write.WriteFault.{WriteFault}
use Rattle.text_lines.specs.Writing.{Wrote, Writes}
use Rattle.text_lines.proofs.Writing.{wrote_none, wrote_piece, wrote_fault, wrote_all}

-- How the items from a place on are spelled and what they need: the item there first, then those after it.
pub record Spelled {X : Type 0} (piece : ℕ → X → List ℕ) (spell : ℕ → List X → List ℕ) (Fit : ℕ → X → Type 0) (Fits : ℕ → List X → Type 0) : Type 0 where
  pub none : (i : ℕ) → spell i [] ≡ []
  pub next : (i : ℕ) (x : X) (xs : List X) → spell i (x ∷ xs) ≡ piece i x ++ spell (i + 1) xs
  pub fits_none : (i : ℕ) → Fits i []
  pub fits_next : (i : ℕ) (x : X) (xs : List X) → Fit i x → Fits (i + 1) xs → Fits i (x ∷ xs)

-- the items below a place are written, and fit if the others do
pub record WroteBelow {X : Type 0} (spell : ℕ → List X → List ℕ) (Fits : ℕ → List X → Type 0) (old new : Option (List ℕ)) (xs : List X) (i : ℕ) : Type 0 where
  pub wrote : Wrote old new (spell 0 xs) (spell i (drop i xs))
  pub fits : Fits i (drop i xs) → Fits 0 xs

pub below_none : {X : Type 0} (spell : ℕ → List X → List ℕ) (Fits : ℕ → List X → Type 0) (a : Option (List ℕ)) (xs : List X) → WroteBelow spell Fits a a xs 0
below_none spell Fits a xs = record { wrote = wrote_none a (spell 0 xs); fits = λ h. h }

module _ {X : Type 0} {piece : ℕ → X → List ℕ} {spell : ℕ → List X → List ℕ} {Fit : ℕ → X → Type 0} {Fits : ℕ → List X → Type 0} (law : Spelled piece spell Fit Fits) {xs : List X} {i : ℕ} {a b : Option (List ℕ)} (so_far : WroteBelow spell Fits a b xs i) where
  left_next : (d : X) → i < length xs → Wrote a b (spell 0 xs) (piece i (get_or xs i d) ++ spell (i + 1) (drop (i + 1) xs))
  left_next d lt =
      let e : spell i (drop i xs) ≡ piece i (get_or xs i d) ++ spell (i + 1) (drop (i + 1) xs) = rw (drop_more xs i d lt) (law.next i (get_or xs i d) (drop (i + 1) xs)) in
      subst (λ (u : List ℕ). Wrote a b (spell 0 xs) u) e so_far.wrote

  pub below_more : (c : Option (List ℕ)) (x d : X) → x ≡ get_or xs i d → i < length xs → Appends b c (piece i x) → Fit i x → WroteBelow spell Fits a c xs (i + 1)
  below_more c x d is lt h f =
      let y = get_or xs i d in
      let g : Appends b c (piece i y) = subst (λ (u : X). Appends b c (piece i u)) is h in
      let k : Fit i y = subst (λ (u : X). Fit i u) is f in
      record {
        wrote = wrote_piece a b c (spell 0 xs) (piece i y) (spell (i + 1) (drop (i + 1) xs)) (left_next d lt) g;
        fits = λ t. so_far.fits (subst (λ (u : List X). Fits i u) (sym (drop_more xs i d lt)) (law.fits_next i y (drop (i + 1) xs) k t));
      }

  pub below_fault : (c : Option (List ℕ)) (x d : X) → x ≡ get_or xs i d → (e : WriteFault) → i < length xs → Writes b c (Err e) (piece i x) → Writes a c (Err e) (spell 0 xs)
  below_fault c x d is e lt h =
      let y = get_or xs i d in
      let g : Writes b c (Err e) (piece i y) = subst (λ (u : X). Writes b c (Err e) (piece i u)) is h in
      wrote_fault a b c e (spell 0 xs) (piece i y) (spell (i + 1) (drop (i + 1) xs)) (left_next d lt) g

  pub below_all : length xs ≤ i → Appends a b (spell 0 xs) × Fits 0 xs
  below_all le =
      let left : Wrote a b (spell 0 xs) [] = subst (λ (u : List ℕ). Wrote a b (spell 0 xs) u) (ap (spell i) (drop_all i xs le) ∙ law.none i) so_far.wrote in
      (wrote_all a b (spell 0 xs) left, so_far.fits (subst (λ (u : List X). Fits i u) (sym (drop_all i xs le)) (law.fits_none i)))
