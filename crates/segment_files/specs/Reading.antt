-- The readers of a file's head as functions on lists.
use Rattle.std.specs.Prelude.{ℕ, zero, suc, ◌^◌, List, [], ◌∷◌, length, Ok, Err, codes, if◌then◌else◌}
use Rattle.text_lines.specs.declared.fault.Fault.TheVariants.{Short, Bad}
use Rattle.text_lines.specs.Reading.{Reader, number_at, positive_at, after_at, nothing_at, then_at, as_at}
use Rattle.ring_model.specs.declared.bases.Base.{Base}
use Rattle.segment_files.specs.Spelling.{Head, digest_digits, is_digit}

-- one digit of a digest
unfoldable pub digit_at : Reader ℕ
digit_at [] = Err Short
digit_at (b ∷ bs) = if is_digit b then Ok (b, bs) else Err (Bad (suc (length bs)))

-- n values, one after the other
unfoldable pub repeat_at : {A : Type 0} → Reader A → ℕ → Reader (List A)
repeat_at item zero bytes = Ok ([], bytes)
repeat_at {A} item (suc n) bytes =
    as_at (λ (p : A × List A). p.0 ∷ p.1) (then_at item (λ _. repeat_at item n)) bytes

-- the digits of a digest
unfoldable pub digits_at : Reader (List ℕ)
digits_at = repeat_at digit_at digest_digits

unfoldable pub behind_at : Reader (List ℕ)
behind_at =
    after_at (codes "behind ")
    (as_at (λ (p : List ℕ × Unit {0}). p.0)
    (then_at digits_at (λ _. after_at (codes "\n") nothing_at)))

abbrev pub base_from : ℕ × (ℕ × (ℕ × ℕ)) → Base
base_from (events, (grants, (amount, calm))) = record {
  events = events;
  grants = grants;
  amount = amount;
  calm = calm;
}

-- a number below 2 ^ 64 with a space after it
abbrev pub large : Reader ℕ
large = number_at (2 ^ 64) 32

unfoldable pub base_at : Reader Base
base_at =
    as_at base_from
    (after_at (codes "base ")
    (then_at large (λ _. then_at large (λ _. then_at large (λ _. number_at (2 ^ 64) 10)))))

-- the parts of a head: its number, how many rings it has, the digest, and the bases
abbrev pub Parts : Type 0
Parts = ℕ × (ℕ × (List ℕ × List Base))

abbrev pub head_from : Parts → Head
head_from (number, (rings, (behind, bases))) = record {
  number = number;
  behind = behind;
  bases = bases;
}

unfoldable pub head_at : Reader Head
head_at =
    as_at head_from
    (after_at (codes "ringsegment 1 ")
    (then_at (positive_at (2 ^ 64) 32)
    (λ _. then_at (positive_at (2 ^ 32) 10)
    (λ rings. then_at behind_at (λ _. repeat_at base_at rings)))))
