-- The refusals of the words of `settings`.
use Rattle.std.proofs.Common.{◌<◌, ◌≤◌, List, length, map, arith}
use Rattle.std.proofs.lemmas.List.{length-map}
use Rattle.ring_settings.specs.Limits.{ring_limit}
use Rattle.ring_settings.specs.declared.faults.Field.{Field}
use Rattle.ring_settings.specs.declared.faults.Field.TheVariants as field
use Rattle.ring_state.specs.Sizes.{Size}
use Rattle.setup_commands.specs.Rings.{size_given, AreSizes, IsRingsRefusal}
use Rattle.setup_commands.specs.Settings.{sizes_of, AreRings, IsSeatFault, IsWordsRefusal}
use Rattle.tool_parts.specs.declared.faults.ToolError.{ToolError}
use Rattle.tool_parts.specs.declared.faults.ToolError.TheVariants as tool
use Rattle.tool_parts.specs.declared.requests.RingSize.{RingSize}
use Rattle.tool_requests.specs.declared.wanted.SettingsWords.{SettingsWords}

pub few_sizes : (sizes : List RingSize) → length sizes ≤ ring_limit → length (map size_given sizes) ≤ ring_limit
few_sizes sizes few = let long = length-map sizes size_given in omega (arith, long, few)

pub many_sizes : (sizes : List RingSize) → ring_limit < length sizes → ring_limit < length (map size_given sizes)
many_sizes sizes many = let long = length-map sizes size_given in omega (arith, long, many)

pub are_rings : (sizes : List Size) → AreSizes sizes → length sizes ≤ ring_limit → AreRings sizes
are_rings sizes are few = record { some = are.some; most = few; allowed = are.allowed }

-- those of the rings, of which there are not too many
pub rings_refused : (words : SettingsWords) (e : ToolError) → length (sizes_of words) ≤ ring_limit → IsRingsRefusal (sizes_of words) e → IsWordsRefusal words e
rings_refused words (tool.NoRing place) few h = h
rings_refused words tool.TotalsTooLarge few h = absurd (omega (arith, few, h))
rings_refused words (tool.Ring place cause) few h = (few, h)
rings_refused words tool.OutOfMemory few h = tt
rings_refused words _ few h = absurd h

-- those of the seats
pub limits_refused : (words : SettingsWords) (f : Field) → AreRings (sizes_of words) → IsSeatFault words f → IsWordsRefusal words (tool.Limit f)
limits_refused words field.Rings rings h = absurd h
limits_refused words _ rings h = (rings, h)
