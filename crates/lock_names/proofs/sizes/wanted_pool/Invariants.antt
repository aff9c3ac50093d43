use Rattle.std.proofs.Common.{◌≡◌, ◌⊎◌, ℕ, ◌*◌, ◌-◌, ◌^◌, ◌<◌, ◌≤◌}
use Rattle.lock_names.specs.Sizes.{least_pool}
use Rattle.lock_names.proofs.sizes.wanted_pool.Given as goal

abbrev pub invariant-loop-size : goal.invariant-loop-size
invariant-loop-size l = record {
  power : (k : ℕ) × (l.size ≡ least_pool * 2 ^ k);
  least : (l.size ≡ least_pool) ⊎ (3 * l.size < 8 * l.used);
  positive : 0 < l.size;
  few : l.size ≤ 2 ^ 34;
}

abbrev pub decreases-loop-size : goal.decreases-loop-size
decreases-loop-size l = 2 ^ 34 - l.size
