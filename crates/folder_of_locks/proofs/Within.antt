-- A reader of which one byte more is taken than there may be.
use Rattle.std.proofs.Common.{◌≡◌, ◌≤◌, ◌∙◌, ℕ, zero, suc, List, [], ◌∷◌, ◌++◌, length, take, Option, Some, None, option_map, IfSome, refl, ap, subst, arith}
use Rattle.std.specs.declared.io.Take.{Take}
use Rattle.std.specs.Io.Take.{take_limit, take_inner, take_remaining}

short : (n : ℕ) (xs : List ℕ) → length (take (suc n) xs) ≤ n → take (suc n) xs ≡ xs
short n [] le = refl
short zero (x ∷ xs) le = absurd (omega (arith, le))
short (suc n) (x ∷ xs) le = ap (λ (ys : List ℕ). x ∷ ys) (short n xs (omega (arith, le)))

all_taken : (n : ℕ) (o : Option (List ℕ)) (xs : List ℕ) → IfSome (option_map (take (suc n)) o) (λ ys. xs ≡ ys) → length xs ≤ n → IfSome o (λ ys. xs ≡ ys)
all_taken n None xs is le = is
all_taken n (Some ys) xs is le = is ∙ short n ys (subst (λ (zs : List ℕ). length zs ≤ n) is le)

-- if no more than there may be was given, all was
pub all_given : {R : Type 0} (remaining : R → Option (List ℕ)) (t : Take R) (r : R) (n : ℕ) (old new : List ℕ) → take_limit t ≡ suc n → take_inner t ≡ r → old ≡ [] → IfSome (take_remaining remaining t) (λ xs. new ≡ old ++ xs) → length new ≤ n →
    IfSome (remaining r) (λ xs. new ≡ xs)
all_given {R = R} remaining t r n old new limit inner none is le =
    let whole : IfSome (option_map (take (take_limit t)) (remaining (take_inner t))) (λ xs. new ≡ xs) = subst (λ (u : List ℕ). IfSome (option_map (take (take_limit t)) (remaining (take_inner t))) (λ xs. new ≡ u ++ xs)) none is in
    let cut : IfSome (option_map (take (suc n)) (remaining (take_inner t))) (λ xs. new ≡ xs) = subst (λ (m : ℕ). IfSome (option_map (take m) (remaining (take_inner t))) (λ xs. new ≡ xs)) limit whole in
    all_taken n (remaining r) new (subst (λ (s : R). IfSome (option_map (take (suc n)) (remaining s)) (λ xs. new ≡ xs)) inner cut) le
