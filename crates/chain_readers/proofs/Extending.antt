-- The segments of the rings are put after those that they have, ring by ring.
use Rattle.std.proofs.Common.{◌≡◌, ℕ, zero, suc, ◌+◌, ◌<◌, ◌≤◌, List, [], ◌∷◌, ◌++◌, length, map, take, drop, get_or, set, min, refl, sym, ap, ◌∙◌, append_assoc, arith, inl, inr}
use Rattle.std.specs.Prelude.{◌⊎◌, Some, slice_get}
use Rattle.std.proofs.lemmas.List.{drop_more, drop_all, take_more_set, take-append-drop, drop-set-lt, map-set, map-append, length-map, append-nil}
use Rattle.std.proofs.Math.ListN.{get_or-map}
use Rattle.saved_history.specs.declared.saved.SavedRing.{SavedRing}
use Rattle.saved_history.specs.Content.{Block, block_of}
use Rattle.ring_model.specs.declared.bases.Base.{Base}
use Rattle.chain_readers.specs.Joining.{with_segment, without_events, opened, extended}

-- ---- each block with its next segment

-- the blocks before a place are done, and those from it on are as before
abbrev Done : List Block → List Base → List Block → ℕ → List Block
Done ks bs fs i = take i ks ++ extended (drop i ks) (drop i bs) (drop i fs)

-- the rings are so far, and what is still to be done leads to the same
abbrev pub Extends : List SavedRing → List Base → List SavedRing → ℕ → List SavedRing → Type 0
Extends old bs next i now = Done (map block_of now) bs (map block_of next) i ≡ extended (map block_of old) bs (map block_of next)

one_done : (ks : List Block) (bs : List Base) (fs : List Block) (i : ℕ) (k : Block) (b : Base) (f x : Block) → i < length ks → i < length bs → i < length fs
    → x ≡ with_segment (get_or ks i k) (get_or bs i b) (get_or fs i f) → Done (set ks i x) bs fs (i + 1) ≡ Done ks bs fs i
one_done ks bs fs i k b f x lk lb lf is =
    let rest : List Block = extended (drop (i + 1) ks) (drop (i + 1) bs) (drop (i + 1) fs) in
    ap (λ (u : List Block). u ++ extended (drop (i + 1) (set ks i x)) (drop (i + 1) bs) (drop (i + 1) fs)) (take_more_set ks i x lk)
    ∙ ap (λ (u : List Block). (take i ks ++ x ∷ []) ++ extended u (drop (i + 1) bs) (drop (i + 1) fs)) (drop-set-lt (i + 1) ks i x (omega arith))
    ∙ append_assoc (take i ks) (x ∷ []) rest
    ∙ ap (λ (u : Block). take i ks ++ u ∷ rest) is
    ∙ sym (ap (λ (u : List Block). take i ks ++ extended u (drop i bs) (drop i fs)) (drop_more ks i k lk)
    ∙ ap (λ (u : List Base). take i ks ++ extended (get_or ks i k ∷ drop (i + 1) ks) u (drop i fs)) (drop_more bs i b lb)
    ∙ ap (λ (u : List Block). take i ks ++ extended (get_or ks i k ∷ drop (i + 1) ks) (get_or bs i b ∷ drop (i + 1) bs) u) (drop_more fs i f lf))

no_bases : (ks fs : List Block) → extended ks [] fs ≡ ks
no_bases [] fs = refl
no_bases (k ∷ ks) fs = refl

no_blocks : (ks : List Block) (bs : List Base) → extended ks bs [] ≡ ks
no_blocks [] bs = refl
no_blocks (k ∷ ks) [] = refl
no_blocks (k ∷ ks) (b ∷ bs) = refl

all_done : (ks : List Block) (bs : List Base) (fs : List Block) (i : ℕ) → (length ks ≤ i) ⊎ ((length bs ≤ i) ⊎ (length fs ≤ i)) → Done ks bs fs i ≡ ks
all_done ks bs fs i (inl le) =
    let none = drop_all i ks le in
    ap (λ (u : List Block). take i ks ++ extended u (drop i bs) (drop i fs)) none ∙ ap (λ (u : List Block). take i ks ++ u) (sym none) ∙ take-append-drop i ks
all_done ks bs fs i (inr (inl le)) =
    ap (λ (u : List Base). take i ks ++ extended (drop i ks) u (drop i fs)) (drop_all i bs le) ∙ ap (λ (u : List Block). take i ks ++ u) (no_bases (drop i ks) (drop i fs)) ∙ take-append-drop i ks
all_done ks bs fs i (inr (inr le)) =
    ap (λ (u : List Block). take i ks ++ extended (drop i ks) (drop i bs) u) (drop_all i fs le) ∙ ap (λ (u : List Block). take i ks ++ u) (no_blocks (drop i ks) (drop i bs)) ∙ take-append-drop i ks

module _ (old : List SavedRing) (bs : List Base) (next : List SavedRing) (i : ℕ) (now : List SavedRing) (so : Extends old bs next i now) where
  pub extends_more : (x y f : SavedRing) (b : Base) → i < length now → i < length bs → i < length next → y ≡ get_or now i y → f ≡ get_or next i f
      → block_of x ≡ with_segment (block_of y) (get_or bs i b) (block_of f) → Extends old bs next (i + 1) (set now i x)
  extends_more x y f b lk lb lf was is e =
      let long = length-map now block_of in
      let many = length-map next block_of in
      let k : get_or (map block_of now) i (block_of y) ≡ block_of y = get_or-map block_of now i y ∙ ap block_of (sym was) in
      let g : get_or (map block_of next) i (block_of f) ≡ block_of f = get_or-map block_of next i f ∙ ap block_of (sym is) in
      ap (λ (u : List Block). Done u bs (map block_of next) (i + 1)) (map-set block_of now i x)
      ∙ one_done (map block_of now) bs (map block_of next) i (block_of y) b (block_of f) (block_of x) (omega (arith, long, lk)) lb (omega (arith, many, lf))
      (e ∙ ap (λ (u : Block). with_segment u (get_or bs i b) (block_of f)) (sym k) ∙ ap (λ (u : Block). with_segment (get_or (map block_of now) i (block_of y)) (get_or bs i b) u) (sym g))
      ∙ so

  pub extends_all : (length now ≤ i) ⊎ ((length bs ≤ i) ⊎ (length next ≤ i)) → map block_of now ≡ extended (map block_of old) bs (map block_of next)
  extends_all end = sym (all_done (map block_of now) bs (map block_of next) i (ends end)) ∙ so
    where
      ends : (length now ≤ i) ⊎ ((length bs ≤ i) ⊎ (length next ≤ i)) → (length (map block_of now) ≤ i) ⊎ ((length bs ≤ i) ⊎ (length (map block_of next) ≤ i))
      ends (inl le) = let long = length-map now block_of in inl (omega (arith, long, le))
      ends (inr (inl le)) = inr (inl le)
      ends (inr (inr le)) = let long = length-map next block_of in inr (inr (omega (arith, long, le)))

-- ---- rings more

module _ (rings next : List SavedRing) (i : ℕ) where
  pub opened_more : (more : List SavedRing) (x f : SavedRing) → i < length next → f ≡ get_or next i f → block_of x ≡ without_events (block_of f) → more ≡ rings ++ x ∷ []
      → map block_of more ++ map without_events (drop (i + 1) (map block_of next)) ≡ map block_of rings ++ map without_events (drop i (map block_of next))
  opened_more more x f lt is e put =
      let long = length-map next block_of in
      let g : get_or (map block_of next) i (block_of f) ≡ block_of f = get_or-map block_of next i f ∙ ap block_of (sym is) in
      let rest : List Block = map without_events (drop (i + 1) (map block_of next)) in
      ap (λ (u : List SavedRing). map block_of u ++ rest) put
      ∙ ap (λ (u : List Block). u ++ rest) (map-append block_of rings (x ∷ []))
      ∙ append_assoc (map block_of rings) (block_of x ∷ []) rest
      ∙ ap (λ (u : Block). map block_of rings ++ u ∷ rest) (e ∙ ap without_events (sym g))
      ∙ sym (ap (λ (u : List Block). map block_of rings ++ map without_events u) (drop_more (map block_of next) i (block_of f) (omega (arith, long, lt))))

  pub opened_all : length next ≤ i → map block_of rings ++ map without_events (drop i (map block_of next)) ≡ map block_of rings
  opened_all le =
      let long = length-map next block_of in
      ap (λ (u : List Block). map block_of rings ++ map without_events u) (drop_all i (map block_of next) (omega (arith, long, le))) ∙ append-nil (map block_of rings)

-- ---- the block of a ring at its place

pub block_at : (rings : List SavedRing) (i : ℕ) (r : SavedRing) → i < length rings → r ≡ get_or rings i r → slice_get (map block_of rings) i ≡ Some (block_of r)
block_at rings i r lt is =
    let long = length-map rings block_of in
    slice_get_is (map block_of rings) i (block_of r) (omega (arith, long, lt)) ∙ ap (λ (k : Block). Some k) (get_or-map block_of rings i r ∙ ap block_of (sym is))
  where
    slice_get_is : (ks : List Block) (i : ℕ) (k : Block) → i < length ks → slice_get ks i ≡ Some (get_or ks i k)
    slice_get_is [] i k lt = absurd (omega (arith, lt))
    slice_get_is (x ∷ ks) zero k lt = refl
    slice_get_is (x ∷ ks) (suc i) k lt = slice_get_is ks i k (omega (arith, lt))

-- one of three is the least
pub some_least : (a b c i : ℕ) → min (min a b) c ≤ i → (a ≤ i) ⊎ ((b ≤ i) ⊎ (c ≤ i))
some_least a b c i le = grind (arith, le)
