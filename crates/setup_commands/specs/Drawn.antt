-- The answer of `new` with drawn values.
use Rattle.std.specs.Prelude.{ℕ, List, length, map, Option, Some}
use Rattle.std.specs.Io.KnownBytes.{Appends}
use Rattle.ring_check.specs.Legal.{IsLegalText}
use Rattle.ring_check.specs.Meaning.{IsRightText}
use Rattle.ring_settings.specs.Contents.{RingData}
use Rattle.ring_state.specs.Sizes.{Size}
use Rattle.saved_history.specs.Content.{Content}
use Rattle.saved_history.specs.Spelling.{Fits, text}
use Rattle.saved_history.specs.Versions.{latest_version}
use Rattle.setup_commands.specs.Rings.{size_given, rings_of, blocks_from, AreSizes, IsRingsRefusal}
use Rattle.tool_parts.specs.Written.{AppendsFront}
use Rattle.tool_parts.specs.declared.faults.ToolError.{ToolError}
use Rattle.tool_parts.specs.declared.faults.ToolError.TheVariants as tool
use Rattle.tool_requests.specs.declared.wanted.DrawnWords.{DrawnWords}

-- the history of rings to which nothing has happened yet, in the latest version
abbrev pub history_of : List RingData → Content
history_of rings = record {
  version = latest_version;
  rings = blocks_from 0 rings;
  rings_said = length rings;
}

-- the sizes that the words give, in their order
abbrev pub sizes_of : DrawnWords → List Size
sizes_of words = map size_given words.rings.items

-- the history of the rings that the words give, with drawn values
abbrev pub drawn_history : DrawnWords → Content
drawn_history words = history_of (rings_of (Some words.seed) (sizes_of words))

-- the content has a text, and it is legal, by the table of the refusals and in the subject's words
pub record IsLegalHistory (c : Content) : Type 0 where
  pub fits : Fits c
  pub table : IsLegalText c
  pub right : IsRightText c

-- rings of such sizes have a legal history before anything happens
abbrev pub DrawnIsLegal : Type 0
DrawnIsLegal =
    (seed : Option ℕ) (sizes : List Size) → AreSizes sizes
    → IsLegalHistory (history_of (rings_of seed sizes))

-- The sizes are allowed, and the text of the history of their rings is printed, which is legal.
pub record IsDrawnAnswer (words : DrawnWords) (old new : Option (List ℕ)) : Type 0 where
  pub sizes : AreSizes (sizes_of words)
  pub printed : Appends old new (text (drawn_history words))
  pub legal : IsLegalHistory (drawn_history words)

-- Which refusals `new` with drawn values may meet: those of its words, and that the writer failed,
-- which got a prefix of the text.
abbrev pub IsDrawnRefusal : DrawnWords → Option (List ℕ) → Option (List ℕ) → ToolError → Type 0
IsDrawnRefusal words old new tool.Write =
    AreSizes (sizes_of words) × AppendsFront old new (text (drawn_history words))
IsDrawnRefusal words old new e = IsRingsRefusal (sizes_of words) e
