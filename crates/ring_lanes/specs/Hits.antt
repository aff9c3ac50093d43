-- The results of the kernels, for any test of the machines: the tests of a block as a bit mask,
-- their count and their weight.
use Rattle.std.specs.Prelude.{ℕ, zero, suc, ◌-◌, ◌==◌, ◌&&◌, nat_lt, Bool, false, not, cond, List, map, slice_index}
use Rattle.std.specs.List.{range_with_len, sum_by, count_by}
use Rattle.std.specs.Simd.Lanes.{mask_l}
use Rattle.ring_model.specs.Ring.{is_privileged}

-- whether machine i is privileged: the shared definition under a name that a proof opens only where
-- it wants to
unfoldable pub privileged_at : List ℕ → ℕ → Bool
privileged_at s i = is_privileged s i

-- whether machine i holds the value of machine 0 though its left neighbour does not
unfoldable pub returning_at : List ℕ → ℕ → Bool
returning_at s zero = false
returning_at s (suc i) =
    (slice_index s (suc i) == slice_index s 0) && not (slice_index s i == slice_index s 0)

-- the number whose bit k is set exactly where a + k passes, for each k below m
unfoldable pub mask_from : (ℕ → Bool) → ℕ → ℕ → ℕ
mask_from p a m = mask_l (map p (range_with_len a m))

-- how many of the numbers from a on, m in all, pass
unfoldable pub count_from : (ℕ → Bool) → ℕ → ℕ → ℕ
count_from p a m = count_by p (range_with_len a m)

-- the sum of n - i over the numbers i from a on, m in all, that pass
unfoldable pub weight_from : (ℕ → Bool) → ℕ → ℕ → ℕ → ℕ
weight_from p n a m = sum_by (λ i. cond (p i) (n - i) 0) (range_with_len a m)

-- whether i is below n and passes
unfoldable pub within : ℕ → (ℕ → Bool) → ℕ → Bool
within n p i = nat_lt i n && p i
