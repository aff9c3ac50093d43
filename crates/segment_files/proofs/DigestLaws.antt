-- The digits of a digest fit.
use Rattle.std.proofs.Common.{◌≡◌, ℕ, zero, suc, ◌/◌, ◌%◌, ◌<◌, IsTrue, List, [], ◌∷◌, length, get_or, refl, arith}
use Rattle.std.specs.List.{AllByRecursion}
use Rattle.hex.specs.Hex.{encode_with, encode_lower, lower_digits}
use Rattle.hex.proofs.HexLemmas.{length-encode_with}
use Rattle.segment_files.specs.Spelling.{is_digit, DigestFits}

-- each of sixteen digits is one
sixteen : (n : ℕ) → n < 16 → IsTrue (is_digit (get_or lower_digits n 0))
sixteen zero lt = refl
sixteen (suc zero) lt = refl
sixteen (suc (suc zero)) lt = refl
sixteen (suc (suc (suc zero))) lt = refl
sixteen (suc (suc (suc (suc zero)))) lt = refl
sixteen (suc (suc (suc (suc (suc zero))))) lt = refl
sixteen (suc (suc (suc (suc (suc (suc zero)))))) lt = refl
sixteen (suc (suc (suc (suc (suc (suc (suc zero))))))) lt = refl
sixteen (suc (suc (suc (suc (suc (suc (suc (suc zero)))))))) lt = refl
sixteen (suc (suc (suc (suc (suc (suc (suc (suc (suc zero))))))))) lt = refl
sixteen (suc (suc (suc (suc (suc (suc (suc (suc (suc (suc zero)))))))))) lt = refl
sixteen (suc (suc (suc (suc (suc (suc (suc (suc (suc (suc (suc zero))))))))))) lt = refl
sixteen (suc (suc (suc (suc (suc (suc (suc (suc (suc (suc (suc (suc zero)))))))))))) lt = refl
sixteen (suc (suc (suc (suc (suc (suc (suc (suc (suc (suc (suc (suc (suc zero))))))))))))) lt = refl
sixteen (suc (suc (suc (suc (suc (suc (suc (suc (suc (suc (suc (suc (suc (suc zero)))))))))))))) lt = refl
sixteen (suc (suc (suc (suc (suc (suc (suc (suc (suc (suc (suc (suc (suc (suc (suc zero))))))))))))))) lt = refl
sixteen (suc (suc (suc (suc (suc (suc (suc (suc (suc (suc (suc (suc (suc (suc (suc (suc n)))))))))))))))) lt = absurd (omega (arith, lt))

digits_fit : (xs : List ℕ) → ((i : ℕ) → get_or xs i 0 < 256) → AllByRecursion (λ d. IsTrue (is_digit d)) (encode_lower xs)
unfolding encode_with
digits_fit [] small = tt
digits_fit (x ∷ xs) small =
    let lt : x < 256 = small 0 in
    (sixteen (x / 16) (omega arith), (sixteen (x % 16) (omega arith), digits_fit xs (λ i. small (suc i))))

pub digest_fits : (xs : List ℕ) → length xs ≡ 32 → ((i : ℕ) → get_or xs i 0 < 256) → DigestFits (encode_lower xs)
digest_fits xs long small = record { long = (let n = length-encode_with lower_digits xs in omega (arith, n, long)); digits = digits_fit xs small }
