-- A line that is too long is kept only so far.
use Rattle.std.proofs.Common.{◌≡◌, ℕ, ◌+◌, ◌-◌, ◌≤◌, List, [], ◌++◌, length, take, sym, ap, ◌∙◌, append-nil, inl, inr, arith}
use Rattle.std.proofs.Math.Seq.{take-append-add}
use Rattle.std.proofs.lemmas.Bool.{cases_lt}
use Rattle.std.proofs.lemmas.List.{take_all, take-append-le, length-take-le}
use Rattle.text_lines.specs.Limits.{line_limit}
use Rattle.line_service.specs.Answering.{cut}

-- a piece more of a line: of it is kept what a line may have, and one byte
pub kept_piece : (piece begun line : List ℕ) → line ≡ cut begun → line ++ take (line_limit + 1 - length line) piece ≡ cut (begun ++ piece)
unfolding cut
kept_piece piece begun line e = go (line_limit + 1) e
  where
    go : (n : ℕ) → line ≡ take n begun → line ++ take (n - length line) piece ≡ take n (begun ++ piece)
    go n e = elim (cases_lt n (length begun)) [
      | inl l ↦
          let size : length line ≡ n = ap (λ (x : List ℕ). length x) e ∙ length-take-le n begun (omega (arith, l)) in
          let none : n - length line ≡ 0 = omega (arith, size) in
          ap (λ (m : ℕ). line ++ take m piece) none ∙ (append-nil line ∙ (e ∙ sym (take-append-le n begun piece (omega (arith, l)))))
      | inr l ↦
          let whole : line ≡ begun = e ∙ take_all n begun l in
          let room : length begun + (n - length begun) ≡ n = omega (arith, l) in
          ap (λ (x : List ℕ). x ++ take (n - length x) piece) whole ∙ (sym (take-append-add begun piece (n - length begun)) ∙ ap (λ (m : ℕ). take m (begun ++ piece)) room)
    ]

-- a whole line that is not too long
pub whole_piece : (piece begun line : List ℕ) → line ≡ [] → length piece ≤ line_limit → line ≡ cut begun → piece ≡ cut (begun ++ piece)
whole_piece piece begun line none few e =
    let size : length line ≡ 0 = ap (λ (x : List ℕ). length x) none in
    let all : take (line_limit + 1 - length line) piece ≡ piece = take_all (line_limit + 1 - length line) piece (omega (arith, size, few)) in
    sym (ap (λ (x : List ℕ). x ++ take (line_limit + 1 - length line) piece) none ∙ all) ∙ kept_piece piece begun line e

pub cut_nil : [] ≡ cut []
unfolding cut
cut_nil = sym (take_all (line_limit + 1) [] (omega arith))
