-- Lines at the front of a text.
use Rattle.std.proofs.Common.{◌≡◌, ℕ, ◌+◌, ◌≤◌, ◌⊎◌, inl, inr, Bool, true, false, eqb, List, [], ◌∷◌, ◌++◌, length, take, drop, refl, sym, ap, ◌∙◌, append_assoc, arith}
use Rattle.std.specs.Prelude.{◌||◌}
use Rattle.std.specs.List.{list_any}
use Rattle.std.proofs.lemmas.List.{take-append-drop, length-append, length-take}
use Rattle.journal.specs.Recovery.{has_line_end}
use Rattle.segment_files.specs.Remarks.{lines_in}

-- an empty text has no line
pub none_of_none : (f : List ℕ → Bool) (rest : List ℕ) → length rest ≡ 0 → list_any f (lines_in rest) ≡ false
unfolding lines_in
none_of_none f [] e = refl
none_of_none f (b ∷ bs) e = absurd (omega (arith, e))

-- ---- a text in two ways

-- the first part of the one way is as long as that of the other, or shorter
pub split_by : (xs ys us bs : List ℕ) → xs ++ ys ≡ us ++ bs → ((m : List ℕ) × (xs ≡ us ++ m)) ⊎ ((b : ℕ) × (m : List ℕ) × (us ≡ xs ++ b ∷ m) × ((b ∷ m) ++ bs ≡ ys))
split_by xs ys [] bs e = inl (xs, refl)
split_by [] ys (a ∷ us) bs e = inr (a, us, refl, sym e)
split_by (x ∷ xs) ys (a ∷ us) bs e =
    let same : x ≡ a = cc in
    let rest : xs ++ ys ≡ us ++ bs = cc in
    elim (split_by xs ys us bs rest) [
      | inl h ↦ inl (h.0, ap (λ (b : ℕ). b ∷ xs) same ∙ ap (λ (u : List ℕ). a ∷ u) h.1)
      | inr h ↦ inr (h.0, h.1, ap (λ (b : ℕ). b ∷ us) (sym same) ∙ ap (λ (u : List ℕ). x ∷ u) h.2, h.3)
    ]

neither : (a b : Bool) → (a || b) ≡ false → (a ≡ false) × (b ≡ false)
neither true b e = absurd cc
neither false b e = (refl, e)

-- a text that ends with a line has the first line of all
pub first_within : (body behind z tail : List ℕ) → has_line_end body ≡ false → body ++ 10 ∷ behind ≡ (z ++ 10 ∷ []) ++ tail → (y : List ℕ) × (z ++ 10 ∷ [] ≡ (body ++ 10 ∷ []) ++ y)
first_within [] behind [] tail none e = ([], refl)
first_within [] behind (c ∷ z) tail none e =
    let same : 10 ≡ c = cc in
    (z ++ 10 ∷ [], ap (λ (b : ℕ). b ∷ (z ++ 10 ∷ [])) (sym same))
first_within (b ∷ body) behind [] tail none e =
    let same : b ≡ 10 = cc in
    absurd (clash (sym (ap (λ (x : ℕ). eqb x 10) same) ∙ (neither (eqb b 10) (has_line_end body) none).0))
  where
    clash : true ≡ false → ⊥
    clash f = cc
first_within (b ∷ body) behind (c ∷ z) tail none e =
    let same : b ≡ c = cc in
    let rest : body ++ 10 ∷ behind ≡ (z ++ 10 ∷ []) ++ tail = cc in
    let h = first_within body behind z tail (neither (eqb b 10) (has_line_end body) none).1 rest in
    (h.0, ap (λ (u : List ℕ). c ∷ u) h.1 ∙ ap (λ (x : ℕ). x ∷ ((body ++ 10 ∷ []) ++ h.0)) (sym same))

pub not_none : (front : List ℕ) (b : ℕ) (m : List ℕ) → front ++ b ∷ m ≡ [] → ⊥
not_none [] b m e = cc
not_none (c ∷ front) b m e = cc

-- the rest of a text that ends with a line does so too
pub rest_ends : (z front : List ℕ) (b : ℕ) (m : List ℕ) → z ++ 10 ∷ [] ≡ front ++ b ∷ m → (y : List ℕ) × (b ∷ m ≡ y ++ 10 ∷ [])
rest_ends z [] b m e = (z, sym e)
rest_ends [] (c ∷ []) b m e = absurd cc
rest_ends [] (c ∷ d ∷ front) b m e = absurd cc
rest_ends (x ∷ z) (c ∷ front) b m e =
    let rest : z ++ 10 ∷ [] ≡ front ++ b ∷ m = cc in
    rest_ends z front b m rest

-- ---- a front with one line more

take_whole : (xs ys : List ℕ) → take (length xs) (xs ++ ys) ≡ xs
take_whole [] ys = refl
take_whole (x ∷ xs) ys = ap (λ (u : List ℕ). x ∷ u) (take_whole xs ys)

pub take_both : (bytes : List ℕ) (kept : ℕ) (line behind : List ℕ) → kept ≤ length bytes → drop kept bytes ≡ line ++ behind → take (kept + length line) bytes ≡ take kept bytes ++ line
take_both bytes kept line behind le e =
    let front : List ℕ = take kept bytes in
    let parts : bytes ≡ (front ++ line) ++ behind = sym (take-append-drop kept bytes) ∙ (ap (λ (u : List ℕ). front ++ u) e ∙ sym (append_assoc front line behind)) in
    let long : kept + length line ≡ length (front ++ line) = omega (arith, length-append front line, length-take kept bytes, le) in
    ap (λ (n : ℕ). take n bytes) long ∙ (ap (take (length (front ++ line))) parts ∙ take_whole (front ++ line) behind)
