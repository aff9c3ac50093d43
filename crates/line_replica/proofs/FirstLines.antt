-- The first line of a text, byte by byte.
use Rattle.std.proofs.Common.{◌≡◌, ℕ, zero, suc, ◌+◌, ◌<◌, ◌≤◌, cond, List, [], ◌∷◌, ◌++◌, length, take, drop, refl, ap, sym, subst, ◌==◌, get_or, ◌≢◌, arith}
use Rattle.std.proofs.lemmas.Bool.{ne_eqb}
use Rattle.line_replica.specs.Keys.{first_line}

more : (xs : List ℕ) (i : ℕ) → i < length xs → get_or xs i 0 ≢ 10 → take i xs ++ first_line (drop i xs) ≡ take (suc i) xs ++ first_line (drop (suc i) xs)
more [] i lt other = absurd (omega (arith, lt))
more (x ∷ xs) zero lt other = ap (λ b. cond b (x ∷ []) (x ∷ first_line xs)) (ne_eqb x 10 other)
more (x ∷ xs) (suc i) lt other = ap (λ (u : List ℕ). x ∷ u) (more xs i (omega (arith, lt)) other)

ends : (xs : List ℕ) (i : ℕ) → i < length xs → get_or xs i 0 ≡ 10 → take i xs ++ first_line (drop i xs) ≡ take (suc i) xs
ends [] i lt is = absurd (omega (arith, lt))
ends (x ∷ xs) zero lt is = subst (λ (y : ℕ). cond (y == 10) (y ∷ []) (y ∷ first_line xs) ≡ y ∷ []) (sym is) refl
ends (x ∷ xs) (suc i) lt is = ap (λ (u : List ℕ). x ∷ u) (ends xs i (omega (arith, lt)) is)

-- the byte at i is not an LF
pub line_more : (xs : List ℕ) (i : ℕ) → i < length xs → get_or xs i 0 ≢ 10 → take i xs ++ first_line (drop i xs) ≡ take (i + 1) xs ++ first_line (drop (i + 1) xs)
line_more xs i lt other =
    let e : suc i ≡ i + 1 = omega arith in
    subst (λ (n : ℕ). take i xs ++ first_line (drop i xs) ≡ take n xs ++ first_line (drop n xs)) e (more xs i lt other)

-- the byte at i is an LF
pub line_ends : (xs : List ℕ) (i : ℕ) → i < length xs → get_or xs i 0 ≡ 10 → take i xs ++ first_line (drop i xs) ≡ take (i + 1) xs
line_ends xs i lt is =
    let e : suc i ≡ i + 1 = omega arith in
    subst (λ (n : ℕ). take i xs ++ first_line (drop i xs) ≡ take n xs) e (ends xs i lt is)

-- there is no byte more
pub line_all : (xs : List ℕ) (i : ℕ) → length xs ≤ i → take i xs ++ first_line (drop i xs) ≡ xs
line_all [] zero le = refl
line_all [] (suc i) le = refl
line_all (x ∷ xs) zero le = absurd (omega (arith, le))
line_all (x ∷ xs) (suc i) le = ap (λ (u : List ℕ). x ∷ u) (line_all xs i (omega (arith, le)))
