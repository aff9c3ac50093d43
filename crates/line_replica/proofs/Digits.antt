-- The digits of a digest, one by one.
use Rattle.std.proofs.Common.{◌≡◌, ℕ, ◌+◌, ◌<◌, ◌≤◌, ◌&&◌, true, false, List, length, drop, get_or, ap, ◌∙◌}
use Rattle.std.proofs.lemmas.List.{drop_more, drop_all}
use Rattle.std.specs.List.{list_all}
use Rattle.segment_files.specs.Spelling.{is_digit}

pub digits_more : (xs : List ℕ) (i : ℕ) → i < length xs → is_digit (get_or xs i 0) ≡ true → list_all is_digit (drop i xs) ≡ list_all is_digit (drop (i + 1) xs)
digits_more xs i lt e = ap (λ (u : List ℕ). list_all is_digit u) (drop_more xs i 0 lt) ∙ ap (λ b. b && list_all is_digit (drop (i + 1) xs)) e

pub digits_end : (xs : List ℕ) (i : ℕ) → i < length xs → is_digit (get_or xs i 0) ≡ false → list_all is_digit (drop i xs) ≡ false
digits_end xs i lt e = ap (λ (u : List ℕ). list_all is_digit u) (drop_more xs i 0 lt) ∙ ap (λ b. b && list_all is_digit (drop (i + 1) xs)) e

pub digits_all : (xs : List ℕ) (i : ℕ) → length xs ≤ i → list_all is_digit (drop i xs) ≡ true
digits_all xs i le = ap (λ (u : List ℕ). list_all is_digit u) (drop_all i xs le)
