-- The rings of given sizes, each with the values that its machines start with.
use Rattle.std.specs.Prelude.{◌≡◌, ℕ, ◌+◌, ◌<◌, ◌≤◌, ◌^◌, List, [], ◌∷◌, ◌++◌, length, replicate, Option, None, Some}
use Rattle.std.specs.List.{All}
use Rattle.ring_repairs.specs.Draws.{generator}
use Rattle.ring_repairs.specs.Starts.{start_values}
use Rattle.ring_repairs.specs.declared.starts.Start.TheVariants as start
use Rattle.ring_settings.specs.Contents.{RingData}
use Rattle.ring_settings.specs.Rings.{size_fault}
use Rattle.ring_settings.specs.declared.faults.RingCause.{RingCause}
use Rattle.ring_state.specs.Sizes.{Size, IsSize}
use Rattle.saved_history.specs.Content.{Block}
use Rattle.tool_parts.specs.declared.requests.RingSize.{RingSize}
use Rattle.tool_parts.specs.declared.faults.ToolError.{ToolError}
use Rattle.tool_parts.specs.declared.faults.ToolError.TheVariants as tool

-- a size, as it was given
abbrev pub size_given : RingSize → Size
size_given s = record { n = s.n; k = s.k }

-- the values that the machines of the ring at a place start with: with a seed those of the trial of
-- this number, where trials start from any state; else 0
abbrev pub start_of : Option ℕ → ℕ → Size → List ℕ
start_of None place size = replicate size.n 0
start_of (Some seed) place size = start_values start.Any size 0 (generator seed place)

-- the ring of this size at a place
abbrev pub ring_of : Option ℕ → ℕ → Size → RingData
ring_of seed place size = record { size = size; start = start_of seed place size }

-- the rings of these sizes, the first at the given place
abbrev pub rings_from : Option ℕ → ℕ → List Size → List RingData
rings_from seed place [] = []
rings_from seed place (s ∷ ss) = ring_of seed place s ∷ rings_from seed (place + 1) ss

-- the same, the first at place 0
abbrev pub rings_of : Option ℕ → List Size → List RingData
rings_of seed sizes = rings_from seed 0 sizes

-- the block of a ring at its place, to which nothing has happened yet
abbrev pub block_at : ℕ → RingData → Block
block_at place ring = record {
  index = place;
  n = ring.size.n;
  k = ring.size.k;
  start = ring.start;
  events = [];
  events_said = 0;
  surveys = [];
}

-- the blocks of rings, the first at the given place
abbrev pub blocks_from : ℕ → List RingData → List Block
blocks_from place [] = []
blocks_from place (r ∷ rs) = block_at place r ∷ blocks_from (place + 1) rs

-- at least one size and fewer than 2 ^ 32, and each is allowed
pub record AreSizes (sizes : List Size) : Type 0 where
  pub some : 1 ≤ length sizes
  pub most : length sizes < 2 ^ 32
  pub allowed : All IsSize sizes

-- the ring at this place is the first whose size is not allowed, and this is its fault
abbrev pub IsFirstFault : List Size → ℕ → RingCause → Type 0
IsFirstFault sizes place cause =
    (front : List Size)
    × (s : Size)
    × (back : List Size)
    × (sizes ≡ front ++ s ∷ back)
    × (place ≡ length front)
    × All IsSize front
    × (size_fault s.n s.k ≡ Some cause)

-- the ring of this size at a place is refused: the size is not allowed, or there is no memory
abbrev pub IsRingRefusal : ℕ → Size → ToolError → Type 0
IsRingRefusal place s (tool.Ring at cause) = (at ≡ place) × (size_fault s.n s.k ≡ Some cause)
IsRingRefusal place s tool.OutOfMemory = Unit {0}
IsRingRefusal place s _ = ⊥

-- the rings of these sizes are refused: there is none, or there are too many for a saved history; or
-- the first size that is not allowed; or out of memory
abbrev pub IsRingsRefusal : List Size → ToolError → Type 0
IsRingsRefusal sizes (tool.NoRing place) = (place ≡ 0) × (sizes ≡ [])
IsRingsRefusal sizes tool.TotalsTooLarge = 2 ^ 32 ≤ length sizes
IsRingsRefusal sizes (tool.Ring place cause) = IsFirstFault sizes place cause
IsRingsRefusal sizes tool.OutOfMemory = Unit {0}
IsRingsRefusal sizes _ = ⊥
