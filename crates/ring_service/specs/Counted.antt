-- Rings whose events and surveys are counted (this project's own).
use Rattle.std.specs.Prelude.{◌≡◌, ℕ, ◌-◌, ◌^◌, List, map, min}
use Rattle.endless_ring.specs.Endless.{EndlessView}
use Rattle.ring_service.specs.Standings.{standing_of, AreRight}
use Rattle.ring_service.specs.Due.{lines_of}

-- right rings, and the lines of their segments, up to 2^64 - 1
pub record AreCounted (rings : List EndlessView) (count : ℕ) : Type 0 where
  pub right : AreRight rings
  pub lines : count ≡ min (lines_of (map standing_of rings)) (2 ^ 64 - 1)
