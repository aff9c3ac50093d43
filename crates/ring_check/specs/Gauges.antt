-- The sums that are kept of a ring's values while they change (this project's own).
use Rattle.std.specs.Prelude.{◌≡◌, ℕ, suc, ◌-◌, ◌<◌, ◌≤◌, ◌==◌, ◌+◌, cond, List, length, slice_index}
use Rattle.ring_model.specs.Limits.{machine_limit}
use Rattle.ring_model.specs.Numbers.{bit, count_below}
use Rattle.ring_model.specs.Ring.{Ring, ring_with, is_privileged, privileged_count, weight}
use Rattle.ring_check.specs.declared.gauge.Gauge.{Gauge}

-- the ring whose values a gauge has
abbrev pub ring_of : Gauge → Ring
ring_of g = ring_with g.k g.values.items

-- how many machines but machine 0 hold the value v
abbrev pub holders : List ℕ → ℕ → ℕ
holders s v = count_below (λ i. slice_index s (suc i) == v) (length s - 1)

-- 1 for a privileged machine
abbrev pub bit_of : List ℕ → ℕ → ℕ
bit_of s i = bit (is_privileged s i)

-- the part of two machines in a sum over the machines: only one where they are the same
abbrev pub both_of : (ℕ → ℕ) → ℕ → ℕ → ℕ
both_of f i r = cond {A = ℕ} (r == i) (f i) (f i + f r)

-- a gauge is right, of any values of a machine or more and any K but 0
pub record IsGauge (g : Gauge) : Type 0 where
  pub some : 1 ≤ length g.values.items
  pub few : length g.values.items ≤ machine_limit
  pub positive : 0 < g.k
  pub privileged : g.privileged ≡ privileged_count g.values.items
  pub weight : g.weight ≡ weight g.values.items
  pub long : length g.holders.items ≡ g.k
  pub held : (v : ℕ) → v < g.k → slice_index g.holders.items v ≡ holders g.values.items v
