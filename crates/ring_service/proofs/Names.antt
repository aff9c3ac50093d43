-- The name in a line.
use Rattle.std.proofs.Common.{◌≡◌, ℕ, ◌+◌, ◌-◌, ◌≤◌, List, length, take, drop, sym, ap, ◌∙◌, arith}
use Rattle.std.proofs.lemmas.List.{drop-take}

pub name_is : (line : List ℕ) → 6 ≤ length line → take (length line - 1 - 5) (drop 5 line) ≡ drop 5 (take (length line - 1) line)
name_is line l =
    let e : 5 + (length line - 1 - 5) ≡ length line - 1 = omega (arith, l) in
    sym (drop-take 5 (length line - 1 - 5) line) ∙ ap (λ (k : ℕ). drop 5 (take k line)) e
