-- What is left of a text without its remarks, where the text is cut.
use Rattle.std.proofs.Common.{◌≡◌, ℕ, Bool, true, false, List, [], ◌∷◌, ◌++◌, refl, sym, ◌∙◌, ap, subst, append_assoc, cond, eqb, append-nil}
use Rattle.std.specs.Prelude.{not}
use Rattle.std.specs.List.{flat_map, filter}
use Rattle.segment_files.specs.Remarks.{without_remarks, with_byte, lines_in, is_remark}
use Rattle.ring_service.specs.Recovered.{IsPrefix}

-- the lines of a text that is cut, and those of all of it
abbrev AreCut : List (List ℕ) → List (List ℕ) → Type 0
AreCut [] ys = Unit {0}
AreCut (x ∷ xs) [] = ⊥
AreCut ([] ∷ []) (y ∷ ys) = ⊥
AreCut ((b ∷ x) ∷ []) (y ∷ ys) = (more : List ℕ) × (y ≡ b ∷ (x ++ more))
AreCut (x ∷ z ∷ xs) (y ∷ ys) = (y ≡ x) × AreCut (z ∷ xs) ys

cut_ended : (b : ℕ) (xs ys : List (List ℕ)) → AreCut xs ys → AreCut ((b ∷ []) ∷ xs) ((b ∷ []) ∷ ys)
cut_ended b [] ys c = ([], refl)
cut_ended b (x ∷ xs) ys c = (refl, c)

cut_longer : (b : ℕ) (xs ys : List (List ℕ)) → AreCut xs ys → AreCut (with_byte b xs) (with_byte b ys)
cut_longer b [] [] c = ([], refl)
cut_longer b [] (y ∷ ys) c = (y, refl)
cut_longer b (x ∷ xs) [] c = absurd c
cut_longer b ([] ∷ []) (y ∷ ys) c = absurd c
cut_longer b ((d ∷ x) ∷ []) (y ∷ ys) c = (c.0, ap (λ (u : List ℕ). b ∷ u) c.1)
cut_longer b (x ∷ z ∷ xs) (y ∷ ys) c = (ap (λ (u : List ℕ). b ∷ u) c.0, c.1)

lines_cut : (k l : List ℕ) → AreCut (lines_in k) (lines_in (k ++ l))
unfolding lines_in
lines_cut [] l = tt
lines_cut (b ∷ k) l = go (eqb b 10) (lines_cut k l)
  where
    go : (v : Bool) → AreCut (lines_in k) (lines_in (k ++ l)) → AreCut (cond v ((b ∷ []) ∷ lines_in k) (with_byte b (lines_in k))) (cond v ((b ∷ []) ∷ lines_in (k ++ l)) (with_byte b (lines_in (k ++ l))))
    go true c = cut_ended b (lines_in k) (lines_in (k ++ l)) c
    go false c = cut_longer b (lines_in k) (lines_in (k ++ l)) c

abbrev is_kept : List ℕ → Bool
is_kept line = not (is_remark line)

abbrev left_of : List (List ℕ) → List ℕ
left_of lines = flat_map (λ (line : List ℕ). line) (filter is_kept lines)

last_left : (v : Bool) (x more : List ℕ) (ys : List (List ℕ)) → IsPrefix (flat_map (λ (line : List ℕ). line) (cond (not v) (x ∷ []) [])) (flat_map (λ (line : List ℕ). line) (cond (not v) ((x ++ more) ∷ ys) ys))
last_left true x more ys = (flat_map (λ (line : List ℕ). line) ys, refl)
last_left false x more ys =
    (more ++ flat_map (λ (line : List ℕ). line) ys, append_assoc x more (flat_map (λ (line : List ℕ). line) ys) ∙ ap (λ (u : List ℕ). u ++ (more ++ flat_map (λ (line : List ℕ). line) ys)) (sym (append-nil x)))

line_left : (v : Bool) (x : List ℕ) (xs ys : List (List ℕ)) → IsPrefix (flat_map (λ (line : List ℕ). line) xs) (flat_map (λ (line : List ℕ). line) ys) → IsPrefix (flat_map (λ (line : List ℕ). line) (cond (not v) (x ∷ xs) xs)) (flat_map (λ (line : List ℕ). line) (cond (not v) (x ∷ ys) ys))
line_left true x xs ys p = p
line_left false x xs ys p = (p.0, ap (λ (u : List ℕ). x ++ u) p.1 ∙ sym (append_assoc x (flat_map (λ (line : List ℕ). line) xs) p.0))

left_cut : (xs ys : List (List ℕ)) → AreCut xs ys → IsPrefix (left_of xs) (left_of ys)
left_cut [] ys c = (left_of ys, refl)
left_cut (x ∷ xs) [] c = absurd c
left_cut ([] ∷ []) (y ∷ ys) c = absurd c
left_cut ((b ∷ x) ∷ []) (y ∷ ys) c =
    subst (λ (u : List ℕ). IsPrefix (left_of ((b ∷ x) ∷ [])) (left_of (u ∷ ys))) (sym c.1) (last_left (eqb b 35) (b ∷ x) c.0 (filter is_kept ys))
left_cut (x ∷ z ∷ xs) (y ∷ ys) c =
    subst (λ (u : List ℕ). IsPrefix (left_of (x ∷ z ∷ xs)) (left_of (u ∷ ys))) (sym c.0) (line_left (is_remark x) x (filter is_kept (z ∷ xs)) (filter is_kept ys) (left_cut (z ∷ xs) ys c.1))

-- what is left of its beginning is the beginning of what is left
pub without_cut : (front whole : List ℕ) → IsPrefix front whole → IsPrefix (without_remarks front) (without_remarks whole)
unfolding without_remarks
without_cut front whole p = subst (λ (u : List ℕ). IsPrefix (without_remarks front) (without_remarks u)) (sym p.1) (left_cut (lines_in front) (lines_in (front ++ p.0)) (lines_cut front p.0))
