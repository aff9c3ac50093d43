-- The next segments of locks are read one after the other.
use Rattle.std.proofs.Common.{◌≡◌, ℕ, zero, suc, ◌+◌, ◌<◌, ◌≤◌, List, [], ◌∷◌, ◌++◌, length, map, take, drop, get_or, set, min, replicate, refl, sym, ap, ◌∙◌, append_assoc, arith, inl, inr, Result, Ok, Err}
use Rattle.std.specs.Prelude.{◌⊎◌}
use Rattle.std.proofs.lemmas.List.{drop_more, drop_all, take_more_set, take-append-drop, drop-set-lt, map-set, map-append, length-map, append-nil}
use Rattle.std.proofs.Math.ListN.{get_or-map}
use Rattle.saved_history.specs.declared.saved.SavedRing.{SavedRing}
use Rattle.saved_history.specs.Content.{Block, block_of}
use Rattle.ring_model.specs.Bases.{no_base}
use Rattle.ring_model.specs.declared.bases.Base.{Base}
use Rattle.chain_readers.specs.declared.signs.Sign.{Sign}
use Rattle.chain_readers.specs.declared.reader.HoldReader.{HoldReader}
use Rattle.chain_readers.specs.Signs.{signs_of}
use Rattle.chain_readers.specs.declared.hold_errors.HoldError.{HoldError}
use Rattle.chain_readers.specs.declared.hold_errors.HoldError.TheVariants.{NoHold, OutOfMemory}
use Rattle.chain_readers.specs.Known.{Known, known, read, IsRead}
use Rattle.chain_readers.specs.ChainSteps.{ArePartsRead, refused_at}
use Rattle.chain_readers.specs.Chains.{Part, parts_of, with_first, with_parts, started, part_of}

-- ---- a ring's segments

-- at most as many as there are of both
pub many_parts : (bs : List Base) (ks : List Block) → length (parts_of bs ks) ≡ min (length bs) (length ks)
many_parts [] ks = omega arith
many_parts (b ∷ bs) [] = omega arith
many_parts (b ∷ bs) (k ∷ ks) = let more = many_parts bs ks in omega (arith, more)

pub part_at : (bs : List Base) (ks : List Block) (i : ℕ) (d : Part) (b : Base) (k : Block) → i < length bs → i < length ks → get_or (parts_of bs ks) i d ≡ record { base = get_or bs i b; block = get_or ks i k }
part_at [] ks i d b k lb lk = absurd (omega (arith, lb))
part_at (x ∷ bs) [] i d b k lb lk = absurd (omega (arith, lk))
part_at (x ∷ bs) (y ∷ ks) zero d b k lb lk = refl
part_at (x ∷ bs) (y ∷ ks) (suc i) d b k lb lk = part_at bs ks i d b k (omega (arith, lb)) (omega (arith, lk))

-- ---- lock by lock

abbrev joined : List Known → Result (List Known) (ℕ × ℕ) → Result (List Known) (ℕ × ℕ)
joined xs (Ok ys) = Ok (xs ++ ys)
joined xs (Err e) = Err e

-- the locks before a place are done, and those from it on are as before
abbrev Done : List Known → List Part → ℕ → Result (List Known) (ℕ × ℕ)
Done ks ps i = joined (take i ks) (with_parts i (drop i ks) (drop i ps))

-- the readers are so far, and what is still to be read leads to the same
abbrev pub Reads : List HoldReader → List Base → List SavedRing → ℕ → List HoldReader → Type 0
Reads old bs rings i now = Done (map known now) (parts_of bs (map block_of rings)) i ≡ with_parts 0 (map known old) (parts_of bs (map block_of rings))

joined_more : (xs : List Known) (m : Known) (lock : ℕ) (r : Result (List Known) (ℕ × ℕ)) → joined (xs ++ m ∷ []) r ≡ joined xs (with_first (Ok m) lock r)
joined_more xs m lock (Ok ys) = ap (λ (u : List Known). Ok u) (append_assoc xs (m ∷ []) ys)
joined_more xs m lock (Err e) = refl

-- at a place, what is read first
here : (ks : List Known) (ps : List Part) (i : ℕ) (k : Known) (p : Part) → i < length ks → i < length ps →
    Done ks ps i ≡ joined (take i ks) (with_first (read (get_or ks i k) (signs_of (get_or ps i p).base (get_or ps i p).block)) i (with_parts (i + 1) (drop (i + 1) ks) (drop (i + 1) ps)))
here ks ps i k p lk lp =
    ap (λ (u : List Known). joined (take i ks) (with_parts i u (drop i ps))) (drop_more ks i k lk) ∙ ap (λ (u : List Part). joined (take i ks) (with_parts i (get_or ks i k ∷ drop (i + 1) ks) u)) (drop_more ps i p lp)

one_done : (ks : List Known) (ps : List Part) (i : ℕ) (k m : Known) (p : Part) → i < length ks → i < length ps → read (get_or ks i k) (signs_of (get_or ps i p).base (get_or ps i p).block) ≡ Ok m →
    Done (set ks i m) ps (i + 1) ≡ Done ks ps i
one_done ks ps i k m p lk lp is =
    let rest : Result (List Known) (ℕ × ℕ) = with_parts (i + 1) (drop (i + 1) ks) (drop (i + 1) ps) in
    ap (λ (u : List Known). joined u (with_parts (i + 1) (drop (i + 1) (set ks i m)) (drop (i + 1) ps))) (take_more_set ks i m lk)
    ∙ ap (λ (u : List Known). joined (take i ks ++ m ∷ []) (with_parts (i + 1) u (drop (i + 1) ps))) (drop-set-lt (i + 1) ks i m (omega arith))
    ∙ joined_more (take i ks) m i rest ∙ ap (λ (u : Result Known ℕ). joined (take i ks) (with_first u i rest)) (sym is) ∙ sym (here ks ps i k p lk lp)

one_refused : (ks : List Known) (ps : List Part) (i at : ℕ) (k : Known) (p : Part) → i < length ks → i < length ps → read (get_or ks i k) (signs_of (get_or ps i p).base (get_or ps i p).block) ≡ Err at →
    Done ks ps i ≡ Err (i, at)
one_refused ks ps i at k p lk lp is =
    here ks ps i k p lk lp ∙ ap (λ (u : Result Known ℕ). joined (take i ks) (with_first u i (with_parts (i + 1) (drop (i + 1) ks) (drop (i + 1) ps)))) is

no_parts : (lock : ℕ) (ks : List Known) → with_parts lock ks [] ≡ Ok ks
no_parts lock [] = refl
no_parts lock (k ∷ ks) = refl

all_done : (ks : List Known) (ps : List Part) (i : ℕ) → (length ks ≤ i) ⊎ (length ps ≤ i) → Done ks ps i ≡ Ok ks
all_done ks ps i (inl le) =
    let none = drop_all i ks le in
    ap (λ (u : List Known). joined (take i ks) (with_parts i u (drop i ps))) none ∙ ap (λ (u : List Known). Ok (take i ks ++ u)) (sym none) ∙ ap (λ (u : List Known). Ok u) (take-append-drop i ks)
all_done ks ps i (inr le) =
    ap (λ (u : List Part). joined (take i ks) (with_parts i (drop i ks) u)) (drop_all i ps le) ∙ ap (joined (take i ks)) (no_parts i (drop i ks)) ∙ ap (λ (u : List Known). Ok u) (take-append-drop i ks)

module _ (old : List HoldReader) (bs : List Base) (rings : List SavedRing) (i : ℕ) (now : List HoldReader) (so : Reads old bs rings i now) where
  module _ (y : HoldReader) (f : SavedRing) (b : Base) (lk : i < length now) (lb : i < length bs) (lf : i < length rings) (was : y ≡ get_or now i y) (is : f ≡ get_or rings i f) where
    abbrev blocks : List Block
    blocks = map block_of rings

    abbrev d : Part
    d = record { base = b; block = block_of f }

    here_is : i < length blocks
    here_is = let many = length-map rings block_of in omega (arith, many, lf)

    within : i < length (map known now)
    within = let many = length-map now known in omega (arith, many, lk)

    inside : i < length (parts_of bs blocks)
    inside = let many = many_parts bs blocks in let l = here_is in omega (arith, many, lb, l)

    abbrev signs : List (ℕ × Sign)
    signs = signs_of (get_or bs i b) (block_of f)

    reads : (r : Result Known ℕ) → read (known y) signs ≡ r →
        read (get_or (map known now) i (known y)) (signs_of (get_or (parts_of bs blocks) i d).base (get_or (parts_of bs blocks) i d).block) ≡ r
    reads r e =
        ap (λ (u : Known). read u (signs_of (get_or (parts_of bs blocks) i d).base (get_or (parts_of bs blocks) i d).block)) (get_or-map known now i y ∙ ap known (sym was))
        ∙ ap (λ (u : Part). read (known y) (signs_of u.base u.block)) (part_at bs blocks i d b (block_of f) lb here_is)
        ∙ ap (λ (u : Block). read (known y) (signs_of (get_or bs i b) u)) (get_or-map block_of rings i f ∙ ap block_of (sym is)) ∙ e

    pub reads_more : (x : HoldReader) → read (known y) signs ≡ Ok (known x) → Reads old bs rings (i + 1) (set now i x)
    reads_more x e =
        ap (λ (u : List Known). Done u (parts_of bs blocks) (i + 1)) (map-set known now i x)
        ∙ one_done (map known now) (parts_of bs blocks) i (known y) (known x) d within inside (reads (Ok (known x)) e) ∙ so

    pub reads_no_more : (e : HoldError) (m : Known) (ms : List Known) → IsRead (known y) signs (Err e) m → ArePartsRead (map known old) (parts_of bs blocks) (Err (refused_at i e)) ms
    reads_no_more (NoHold at) m ms r = sym so ∙ one_refused (map known now) (parts_of bs blocks) i at (known y) d within inside (reads (Err at) r)
    reads_no_more OutOfMemory m ms r = tt

  pub reads_all : (length now ≤ i) ⊎ ((length bs ≤ i) ⊎ (length rings ≤ i)) → with_parts 0 (map known old) (parts_of bs (map block_of rings)) ≡ Ok (map known now)
  reads_all end = sym so ∙ all_done (map known now) (parts_of bs (map block_of rings)) i (ends end)
    where
      ends : (length now ≤ i) ⊎ ((length bs ≤ i) ⊎ (length rings ≤ i)) → (length (map known now) ≤ i) ⊎ (length (parts_of bs (map block_of rings)) ≤ i)
      ends (inl le) = let many = length-map now known in inl (omega (arith, many, le))
      ends (inr (inl le)) = let many = many_parts bs (map block_of rings) in inr (omega (arith, many, le))
      ends (inr (inr le)) =
          let many = many_parts bs (map block_of rings) in
          let blocks = length-map rings block_of in inr (omega (arith, many, blocks, le))

-- ---- locks more

module _ (locks : List HoldReader) (bs : List Base) (rings : List SavedRing) (i : ℕ) where
  pub opened_more : (more : List HoldReader) (x : HoldReader) (f : SavedRing) (b : Base) → i < length bs → i < length rings → f ≡ get_or rings i f →
      known x ≡ started (record { base = get_or bs i b; block = block_of f }) → more ≡ locks ++ x ∷ [] →
      map known more ++ map started (drop (i + 1) (parts_of bs (map block_of rings))) ≡ map known locks ++ map started (drop i (parts_of bs (map block_of rings)))
  opened_more more x f b lb lf is e put =
      let many = length-map rings block_of in
      let there : i < length (map block_of rings) = omega (arith, many, lf) in
      let parts = many_parts bs (map block_of rings) in
      let ps : List Part = parts_of bs (map block_of rings) in
      let d : Part = record { base = b; block = block_of f } in
      let at : get_or ps i d ≡ record { base = get_or bs i b; block = block_of f } =
      part_at bs (map block_of rings) i d b (block_of f) lb there ∙ ap (λ (u : Block). record { base = get_or bs i b; block = u }) (get_or-map block_of rings i f ∙ ap block_of (sym is)) in
      let rest : List Known = map started (drop (i + 1) ps) in
      ap (λ (u : List HoldReader). map known u ++ rest) put
      ∙ ap (λ (u : List Known). u ++ rest) (map-append known locks (x ∷ []))
      ∙ append_assoc (map known locks) (known x ∷ []) rest
      ∙ ap (λ (u : Known). map known locks ++ u ∷ rest) (e ∙ ap started (sym at))
      ∙ sym (ap (λ (u : List Part). map known locks ++ map started u) (drop_more ps i d (omega (arith, parts, lb, there))))

  pub opened_all : min (length bs) (length rings) ≤ i → map known locks ++ map started (drop i (parts_of bs (map block_of rings))) ≡ map known locks
  opened_all le =
      let many = length-map rings block_of in
      let parts = many_parts bs (map block_of rings) in
      ap (λ (u : List Part). map known locks ++ map started u) (drop_all i (parts_of bs (map block_of rings)) (omega (arith, parts, many, le))) ∙ append-nil (map known locks)

-- one of three is the least
pub some_least : (a b c i : ℕ) → min (min a b) c ≤ i → (a ≤ i) ⊎ ((b ≤ i) ⊎ (c ≤ i))
some_least a b c i le = grind (arith, le)

-- ---- a saved history

pub none_before : (n : ℕ) (ks : List Block) → n ≡ length ks → parts_of (replicate n no_base) ks ≡ map part_of ks
none_before n [] e = ap (λ (m : ℕ). parts_of (replicate m no_base) []) e
none_before zero (k ∷ ks) e = absurd (omega (arith, e))
none_before (suc n) (k ∷ ks) e = ap (λ (u : List Part). part_of k ∷ u) (none_before n ks (omega (arith, e)))
