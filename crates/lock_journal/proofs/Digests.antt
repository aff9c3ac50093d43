-- A digest has its digits.
use Rattle.std.proofs.Common.{ℕ, suc, List, [], ◌∷◌, ◌++◌, get_or, refl, arith, ◌<◌, zero, w32, IsTrue}
use Rattle.std.specs.Prelude.{slice_index, replicate}
use Rattle.std.specs.Int.{to_be_bytes}
use Rattle.std.specs.List.{AllByRecursion}
use Rattle.sha2.specs.Sha256.{sha256, digest_bytes, final_hash, initial_hash_256}
use Rattle.sha2.proofs.Facts256.{length-sha256}
use Rattle.segment_files.specs.Spelling.{DigestFits, digest_of, no_digest, is_digit}
use Rattle.segment_files.proofs.DigestLaws.{digest_fits}

abbrev AreBytes : List ℕ → Type 0
AreBytes bs = AllByRecursion (λ b. b < 256) bs

bytes_then : (xs ys : List ℕ) → AreBytes xs → AreBytes ys → AreBytes (xs ++ ys)
bytes_then [] ys a b = b
bytes_then (x ∷ xs) ys a b = (a.0, bytes_then xs ys a.1 b)

word_bytes : (n : ℕ) → AreBytes (to_be_bytes w32 n)
word_bytes n = (omega arith, (omega arith, (omega arith, (omega arith, tt))))

hash_bytes : (h : List ℕ) (n : ℕ) → AreBytes (digest_bytes h n)
unfolding digest_bytes
hash_bytes h zero = tt
hash_bytes h (suc n) = bytes_then (digest_bytes h n) (to_be_bytes w32 (slice_index h n)) (hash_bytes h n) (word_bytes (slice_index h n))

sum_bytes : (m : List ℕ) → AreBytes (sha256 m)
unfolding sha256
sum_bytes m = hash_bytes (final_hash initial_hash_256 m) 8

each_byte : (bs : List ℕ) → AreBytes bs → (i : ℕ) → get_or bs i 0 < 256
each_byte [] all i = omega arith
each_byte (b ∷ bs) all zero = all.0
each_byte (b ∷ bs) all (suc i) = each_byte bs all.1 i

pub digest_of_fits : (m : List ℕ) → DigestFits (digest_of m)
digest_of_fits m = digest_fits (sha256 m) (length-sha256 m) (each_byte (sha256 m) (sum_bytes m))

zeros : (n : ℕ) → AllByRecursion (λ d. IsTrue (is_digit d)) (replicate n 48)
zeros zero = tt
zeros (suc n) = (refl, zeros n)

pub no_digest_fits : DigestFits no_digest
no_digest_fits = record { long = refl; digits = zeros 64 }
