-- Numbers by their rank (this project's own).
use Rattle.std.specs.Prelude.{ℕ, suc, ◌+◌, ◌/◌, nat_le, List, length, sum, count_by}
use Rattle.ring_model.specs.Numbers.{least}

-- how many of the numbers are at most v
abbrev pub at_most : List ℕ → ℕ → ℕ
at_most numbers v = count_by (λ x. nat_le x v) numbers

-- the number of this rank, from 1: the least one that at least as many of the numbers do not exceed
abbrev pub ranked : List ℕ → ℕ → ℕ
ranked numbers rank = least (λ v. nat_le rank (at_most numbers v)) 0 (suc (sum numbers))

-- the median: the least number that at least half of the numbers do not exceed
abbrev pub median : List ℕ → ℕ
median numbers = ranked numbers ((length numbers + 1) / 2)
