-- Machines that all have the value 0: exactly the first is privileged.
use Rattle.std.proofs.Common.{◌≡◌, ◌∙◌, ℕ, zero, suc, ◌≤◌, true, false, List, replicate, length, get_or, refl, sym, arith}
use Rattle.std.proofs.lemmas.List.{length-replicate}
use Rattle.std.proofs.lemmas.Bool.{false≢true}
use Rattle.ring_model.specs.Ring.{is_privileged, privileged_count, is_settled}
use Rattle.ring_model.proofs.Below.{count_one}
use Rattle.ring_model.proofs.Settled.{count_positive}

-- machines that all have the value 0
zeros : ℕ → List ℕ
zeros n = replicate n 0

-- each has 0
at : (n i : ℕ) → get_or (zeros n) i 0 ≡ zero
unfolding zeros
at zero i = refl
at (suc n) zero = refl
at (suc n) (suc i) = at n i

-- no other than the first is privileged
none : (n i : ℕ) → is_privileged (zeros n) (suc i) ≡ false
none n i = rw (at n i, at n (suc i)) refl

first : (n i : ℕ) → is_privileged (zeros n) i ≡ true → i ≡ 0
first n zero h = refl
first n (suc i) h = absurd (false≢true (sym (none n i) ∙ h))

pub settled : (n : ℕ) → 2 ≤ n → is_settled (replicate n 0) ≡ true
unfolding zeros
settled n two =
    let s = zeros n in
    let len : length s ≡ n = length-replicate n 0 in
    let most : privileged_count s ≤ 1 = count_one (is_privileged s) (length s) (λ i j li lj pi pj. first n i pi ∙ sym (first n j pj)) in
    let least : 1 ≤ privileged_count s = count_positive s (omega (arith, len, two)) in
    let one : privileged_count s ≡ 1 = omega (arith, most, least) in
    rw one refl
