-- Seats that keep their numbers.
use Rattle.std.proofs.Common.{◌≡◌, ℕ, suc, ◌<◌, List, [], ◌∷◌, map, length, slice_index_or, refl, sym, ap, ◌∙◌, arith}
use Rattle.ring_shared.specs.Client.{Client}

-- seats that keep their numbers
pub numbers_kept : (xs ys : List Client) → length ys ≡ length xs → ((i : ℕ) (d : Client) → i < length xs → (slice_index_or ys i d).number ≡ (slice_index_or xs i d).number) →
    map (λ (s : Client). s.number) ys ≡ map (λ (s : Client). s.number) xs
numbers_kept [] [] long same = refl
numbers_kept [] (y ∷ ys) long same = absurd (omega arith)
numbers_kept (x ∷ xs) [] long same = absurd (omega arith)
numbers_kept (x ∷ xs) (y ∷ ys) long same =
    let here : y.number ≡ x.number = same 0 x (omega arith) in
    let more = numbers_kept xs ys (omega arith) (λ i d lt. same (suc i) d (omega arith)) in
    rw (here, more) refl

-- a fact that a call kept of its argument is kept of the value there before
pub through : (x y argument left : Client) → argument ≡ x → left ≡ y → left.number ≡ argument.number → y.number ≡ x.number
through x y argument left is_x is_y same = sym (ap (λ (s : Client). s.number) is_y) ∙ same ∙ ap (λ (s : Client). s.number) is_x
