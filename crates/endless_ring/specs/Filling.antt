-- A text that is written into bytes of a caller, from a place of theirs on (this project's own).
use Rattle.std.specs.Prelude.{◌≡◌, ℕ, ◌+◌, ◌-◌, ◌^◌, ◌≤◌, List, ◌++◌, length, take, drop, min}

-- The text begins at one place and ends at the other, which is counted up to 2^64 - 1. If the bytes
-- have room for it, they have it there, and are else what they were.
pub record Fills (old new : List ℕ) (place behind : ℕ) (text : List ℕ) : Type 0 where
  pub ends : behind ≡ min (place + length text) (2 ^ 64 - 1)
  pub exact : place + length text ≤ length old → behind ≡ place + length text
  pub there : place + length text ≤ length old
      → new ≡ take place old ++ (text ++ drop (place + length text) old)
