-- How large rings may be here.
use Rattle.std.specs.Prelude.{◌≤◌, ℕ, length}
use Rattle.ring_model.specs.Ring.{Ring, IsRing}
use Rattle.ring_model.specs.Limits.{machine_limit, value_limit}

-- how many machines there are, and how many values
pub record Size : Type 0 where
  pub n : ℕ
  pub k : ℕ

-- Dijkstra's solution wants at least as many values as machines (CACM 17(11), 1974); the limits are
-- this project's own
pub record IsSize (size : Size) : Type 0 where
  pub machines : 2 ≤ size.n
  pub most_machines : size.n ≤ machine_limit
  pub values : size.n ≤ size.k
  pub most : size.k ≤ value_limit

-- the size of a ring
abbrev pub size_of : Ring → Size
size_of r = record { n = length r.values; k = r.k }

-- a ring of a size that is allowed here
pub record IsRingState (r : Ring) : Type 0 where
  pub ring : IsRing r
  pub most_machines : length r.values ≤ machine_limit
  pub most : r.k ≤ value_limit
