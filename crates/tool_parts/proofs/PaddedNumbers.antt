-- A number as it is printed with zeros before it.
use Rattle.std.proofs.Common.{◌≡◌, ℕ, ◌-◌, ◌^◌, List, [], ◌++◌, ◌∙◌, length, replicate, ap, append-nil, arith}
use Rattle.std.specs.Fmt.{decimal, styled_decimal, format_spec, padded_integral, char_count}
use Rattle.line_service.specs.SegmentNames.{padded}

pub padded_number : (n : ℕ) → styled_decimal (format_spec 32 0 4 10 (2 ^ 64 - 1)) n ≡ padded n
unfolding padded_integral char_count
padded_number n =
    let zeros : 10 - length (decimal n) - 0 - 0 ≡ 10 - length (decimal n) = omega arith in
    ap (λ (k : ℕ). replicate k 48 ++ (decimal n ++ [])) zeros
    ∙ ap (λ (l : List ℕ). replicate (10 - length (decimal n)) 48 ++ l) (append-nil (decimal n))
