-- Seats that are given back have distinct numbers.
use Rattle.std.proofs.Common.{◌≡◌, [], ◌∷◌, map, eqb}
use Rattle.std.specs.List.{IsDistinct}
use Rattle.std.proofs.lemmas.Bool.{ne_eqb}
use Rattle.ring_shared.specs.Client.{Client}

pub one_distinct : (s : Client) → IsDistinct eqb (map (λ (s : Client). s.number) (s ∷ []))
unfolding IsDistinct
one_distinct s = (tt, tt)

pub two_distinct : (s t : Client) → (s.number ≡ t.number → ⊥) → IsDistinct eqb (map (λ (s : Client). s.number) (s ∷ t ∷ []))
unfolding IsDistinct
two_distinct s t apart = ((ne_eqb s.number t.number apart, tt), (tt, tt))
