-- The k-th number that passes, and how many machines are asked.
use Rattle.std.proofs.Common.{◌≡◌, ℕ, zero, suc, ◌+◌, ◌-◌, ◌<◌, ◌≤◌, Bool, true, false, sym, ◌∙◌, ap}
use Rattle.std.proofs.lemmas.Bool.{cond-true, cond-false, le-leb, lt-leb}
use Rattle.std.proofs.Math.Dec.{leb}
use Rattle.ring_repairs.specs.Daemons.{nth, asked_until}

-- the one with none below it is the first that passes
pub nth_here : (p : ℕ → Bool) (from turns more j : ℕ) → p from ≡ true → turns ≡ suc more → j ≡ 0 → nth p from turns j ≡ from
nth_here p from turns more j e is none =
    ap (λ (x : ℕ). nth p from x j) is ∙ ap (λ (x : ℕ). nth p from (suc more) x) none ∙ cond-true (p from) from (nth p (suc from) more 0) e

-- one that passes counts
pub nth_over : (p : ℕ → Bool) (from turns more j i : ℕ) → p from ≡ true → turns ≡ suc more → j ≡ suc i →
    nth p from turns j ≡ nth p (suc from) more i
nth_over p from turns more j i e is one =
    ap (λ (x : ℕ). nth p from x j) is ∙ ap (λ (x : ℕ). nth p from (suc more) x) one ∙ cond-true (p from) (nth p (suc from) more i) (nth p (suc from) more (suc i)) e

-- one that does not pass counts for nothing
pub nth_past : (p : ℕ → Bool) (from turns more j : ℕ) → p from ≡ false → turns ≡ suc more → nth p from turns j ≡ nth p (suc from) more j
nth_past p from turns more zero e is = ap (λ (x : ℕ). nth p from x 0) is ∙ cond-false (p from) from (nth p (suc from) more 0) e
nth_past p from turns more (suc j) e is =
    ap (λ (x : ℕ). nth p from x (suc j)) is ∙ cond-false (p from) (nth p (suc from) more j) (nth p (suc from) more (suc j)) e

-- how many are asked
pub asked_on : (n i j : ℕ) → i ≤ j → j + 1 - i ≡ asked_until n i j
asked_on n i j l = sym (cond-true (leb i j) (j + 1 - i) (n + j + 1 - i) (le-leb i j l))

pub asked_around : (n i j : ℕ) → j < i → n + j + 1 - i ≡ asked_until n i j
asked_around n i j l = sym (cond-false (leb i j) (j + 1 - i) (n + j + 1 - i) (lt-leb i j l))
