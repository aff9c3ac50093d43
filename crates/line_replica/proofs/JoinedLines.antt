-- Lines that are joined, one after the other.
use Rattle.std.proofs.Common.{◌≡◌, ℕ, List, [], ◌∷◌, ◌++◌, append_assoc, refl, ap, sym, ◌∙◌}
use Rattle.line_service.specs.Answering.{joined_lines}

pub joined_append : (xs ys : List (List ℕ)) → joined_lines (xs ++ ys) ≡ joined_lines xs ++ joined_lines ys
joined_append [] ys = refl
joined_append (x ∷ xs) ys = ap (λ (u : List ℕ). x ++ u) (joined_append xs ys) ∙ sym (append_assoc x (joined_lines xs) (joined_lines ys))
