-- The answer of `new`.
use Rattle.std.specs.Prelude.{◌≡◌, ℕ, ◌≤◌, ◌^◌, List, [], ◌∷◌, ◌++◌, length, map, Option, Some}
use Rattle.std.specs.Io.KnownBytes.{Appends}
use Rattle.std.specs.List.{All}
use Rattle.ring_settings.specs.Rings.{size_fault}
use Rattle.ring_settings.specs.declared.faults.RingCause.{RingCause}
use Rattle.ring_state.specs.Sizes.{Size, IsSize}
use Rattle.saved_history.specs.Spelling.{text}
use Rattle.run_commands.specs.Fresh.{AreSizes, IsFreshHistory, fresh}
use Rattle.tool_parts.specs.Written.{AppendsFront}
use Rattle.tool_parts.specs.declared.requests.NewWords.{NewWords}
use Rattle.tool_parts.specs.declared.requests.RingSize.{RingSize}
use Rattle.tool_parts.specs.declared.faults.ToolError.{ToolError}
use Rattle.tool_parts.specs.declared.faults.ToolError.TheVariants as tool

-- a size, as it was given
abbrev pub size_given : RingSize → Size
size_given s = record { n = s.n; k = s.k }

-- the sizes that the words give, in their order
abbrev pub sizes_of : NewWords → List Size
sizes_of words = map size_given words.rings.items

-- The sizes are allowed, and the text of their history is printed, which is one of settled rings
-- without events, and legal.
pub record IsNewAnswer (words : NewWords) (old new : Option (List ℕ)) : Type 0 where
  pub sizes : AreSizes (sizes_of words)
  pub printed : Appends old new (text (fresh (sizes_of words)))
  pub history : IsFreshHistory (sizes_of words) (fresh (sizes_of words))

-- the ring at this place is the first whose size is not allowed, and this is its fault
abbrev pub IsFirstFault : List Size → ℕ → RingCause → Type 0
IsFirstFault sizes place cause =
    (front : List Size)
    × (s : Size)
    × (back : List Size)
    × (sizes ≡ front ++ s ∷ back)
    × (place ≡ length front)
    × All IsSize front
    × (size_fault s.n s.k ≡ Some cause)

-- the ring of this size at its place is refused: the size is not allowed, or there is no memory
abbrev pub IsRingRefusal : ℕ → Size → ToolError → Type 0
IsRingRefusal place s (tool.Ring at cause) = (at ≡ place) × (size_fault s.n s.k ≡ Some cause)
IsRingRefusal place s tool.OutOfMemory = Unit {0}
IsRingRefusal place s _ = ⊥

-- rings of these sizes are refused: there is none, or there are too many for a saved history; or
-- the first size that is not allowed; or out of memory
abbrev pub IsSizesRefusal : List Size → ToolError → Type 0
IsSizesRefusal sizes (tool.NoRing place) = (place ≡ 0) × (sizes ≡ [])
IsSizesRefusal sizes tool.TotalsTooLarge = 2 ^ 32 ≤ length sizes
IsSizesRefusal sizes (tool.Ring place cause) = IsFirstFault sizes place cause
IsSizesRefusal sizes tool.OutOfMemory = Unit {0}
IsSizesRefusal sizes _ = ⊥

-- Which refusals `new` may meet: those of its sizes, and that the writer failed, which got a prefix
-- of the text.
abbrev pub IsNewRefusal : NewWords → Option (List ℕ) → Option (List ℕ) → ToolError → Type 0
IsNewRefusal words old new tool.Write =
    AreSizes (sizes_of words) × AppendsFront old new (text (fresh (sizes_of words)))
IsNewRefusal words old new e = IsSizesRefusal (sizes_of words) e
