-- What threads return, part by part.
use Rattle.std.proofs.Common.{◌≡◌, ℕ, zero, suc, ◌+◌, ◌<◌, List, [], ◌∷◌, length, map, refl, sym, ◌∙◌, ap, subst, arith}
use Rattle.std.specs.Prelude.{Result, Ok, Err, MatchResult, IfOk, slice_index_or}
use Rattle.std.specs.List.{AllZip, range_with_len}

-- what holds of a whole answer
pub whole : {V E : Type 0} (r : Result V E) (P Q : V → Type 0) (N : E → Type 0) → MatchResult r P N → ((v : V) → P v → Q v) → IfOk r Q
whole (Ok v) P Q N m turn = turn v m
whole (Err e) P Q N m turn = tt

module _ {X E : Type 0} (R : ℕ → Result X E → Type 0) where
  at_place : (a n : ℕ) (ys : List X) → AllZip R (range_with_len a n) (map Ok ys) → (k : ℕ) (d : X) → k < n → R (a + k) (Ok (slice_index_or ys k d))
  at_place a zero ys z k d l = absurd (omega arith)
  at_place a (suc n) [] z k d l = absurd z
  at_place a (suc n) (y ∷ ys) z zero d l =
      let e : a ≡ a + 0 = omega arith in
      subst (λ (i : ℕ). R i (Ok y)) e z.0
  at_place a (suc n) (y ∷ ys) z (suc k) d l =
      let e : a + 1 + k ≡ a + suc k = omega arith in
      subst (λ (i : ℕ). R i (Ok (slice_index_or ys k d))) e (at_place (a + 1) n ys z.1 k d (omega arith))

  as_many : (a n : ℕ) (ys : List X) → AllZip R (range_with_len a n) (map Ok ys) → length ys ≡ n
  as_many a zero [] z = refl
  as_many a zero (y ∷ ys) z = absurd z
  as_many a (suc n) [] z = absurd z
  as_many a (suc n) (y ∷ ys) z = let rest = as_many (a + 1) n ys z.1 in omega arith

  joined : (n : ℕ) (is : List ℕ) (xs : List (Result X E)) (items ys : List X) → is ≡ range_with_len 0 n → AllZip R is xs → xs ≡ map Ok ys → items ≡ ys
      → AllZip R (range_with_len 0 n) (map Ok items)
  joined n is xs items ys places z all same =
      subst (λ (l : List X). AllZip R (range_with_len 0 n) (map Ok l)) (sym same)
      (subst (λ (l : List (Result X E)). AllZip R (range_with_len 0 n) l) all (subst (λ (l : List ℕ). AllZip R l xs) places z))

  -- each place below n has the part that was counted there
  pub part_at : (n : ℕ) (is : List ℕ) (xs : List (Result X E)) (items ys : List X) → is ≡ range_with_len 0 n → AllZip R is xs → xs ≡ map Ok ys → items ≡ ys
      → (k : ℕ) (d : X) → k < n → R k (Ok (slice_index_or items k d))
  part_at n is xs items ys places z all same k d l =
      let e : 0 + k ≡ k = omega arith in
      subst (λ (i : ℕ). R i (Ok (slice_index_or items k d))) e (at_place 0 n items (joined n is xs items ys places z all same) k d l)

  pub parts_many : (n : ℕ) (is : List ℕ) (xs : List (Result X E)) (items ys : List X) → is ≡ range_with_len 0 n → AllZip R is xs → xs ≡ map Ok ys → items ≡ ys
      → length items ≡ n
  parts_many n is xs items ys places z all same = as_many 0 n items (joined n is xs items ys places z all same)
