-- The settings that words give, and their text.
use Rattle.std.specs.Prelude.{◌≡◌, ◌<◌, ◌≤◌, ℕ, List, [], ◌∷◌, ◌++◌, codes, length, map, replicate, Option, None, Some, IfSome, Ok}
use Rattle.std.specs.Io.KnownBytes.{Appends}
use Rattle.std.specs.List.{All}
use Rattle.ring_settings.specs.Contents.{RingData, SeatData, drawing, SettingsData, IsSettings}
use Rattle.ring_settings.specs.Limits.{ring_limit, worker_limit, action_limit}
use Rattle.ring_settings.specs.Seats.{settings_of}
use Rattle.ring_settings.specs.declared.actions.Role.TheVariants as role
use Rattle.ring_settings.specs.declared.faults.Field.{Field}
use Rattle.ring_settings.specs.declared.faults.Field.TheVariants as field
use Rattle.ring_state.specs.Sizes.{Size, IsSize}
use Rattle.saved_history.specs.Content.{Block}
use Rattle.serde_json.specs.Data.{Data, null, number, unsigned, array, object, member, no_members}
use Rattle.serde_json.specs.View.{items_of}
use Rattle.serde_json.specs.Written.{compact_text}
use Rattle.setup_commands.specs.Rings.{size_given, rings_of, IsFirstFault}
use Rattle.tool_parts.specs.Written.{AppendsFront}
use Rattle.tool_parts.specs.declared.faults.ToolError.{ToolError}
use Rattle.tool_parts.specs.declared.faults.ToolError.TheVariants as tool
use Rattle.tool_requests.specs.declared.wanted.SettingsWords.{SettingsWords}

-- the sizes that the words give, in their order
abbrev pub sizes_of : SettingsWords → List Size
sizes_of words = map size_given words.rings.items

-- the injector, if there is one
abbrev pub injector_of : ℕ → Option ℕ → List SeatData
injector_of seed None = []
injector_of seed (Some actions) = drawing role.Injector seed actions ∷ []

-- The settings that the words give: the rings, with drawn values if there is a seed for these; the
-- workers, each with as many drawn actions; and the injector.
abbrev pub settings_given : SettingsWords → SettingsData
settings_given words = record {
  rings = rings_of words.drawn (sizes_of words);
  seats = replicate words.workers (drawing role.Worker words.seed words.actions)
      ++ injector_of words.seed words.injector;
}

-- there are as many workers as settings may have
pub record AreWorkers (workers : ℕ) : Type 0 where
  pub some : 1 ≤ workers
  pub most : workers ≤ worker_limit

-- each seat has no more actions than the limit
pub record AreActions (words : SettingsWords) : Type 0 where
  pub workers : words.actions ≤ action_limit
  pub injector : IfSome words.injector (λ actions. actions ≤ action_limit)

-- there are as many rings as settings may have, each of an allowed size
pub record AreRings (sizes : List Size) : Type 0 where
  pub some : 1 ≤ length sizes
  pub most : length sizes ≤ ring_limit
  pub allowed : All IsSize sizes

-- words that give settings
pub record AreSettingsWords (words : SettingsWords) : Type 0 where
  pub rings : AreRings (sizes_of words)
  pub workers : AreWorkers words.workers
  pub actions : AreActions words

-- ---- their text

-- a number
abbrev pub number_json : ℕ → Data
number_json n = number (unsigned n)

-- a ring
abbrev pub ring_json : RingData → Data
ring_json ring =
    object (member (codes "k") (number_json ring.size.k)
    (member (codes "n") (number_json ring.size.n)
    (member (codes "start") (array (items_of (map number_json ring.start))) no_members)))

-- a seat whose actions are drawn
abbrev pub seat_json : ℕ → ℕ → Data
seat_json seed actions =
    object (member (codes "actions") (number_json actions)
    (member (codes "seed") (number_json seed) no_members))

-- the injector, or `null` for none
abbrev pub injector_json : ℕ → Option ℕ → Data
injector_json seed None = null
injector_json seed (Some actions) = seat_json seed actions

-- the workers
abbrev pub workers_json : SettingsWords → List Data
workers_json words = replicate words.workers (seat_json words.seed words.actions)

-- the document
abbrev pub document_of : SettingsWords → Data
document_of words =
    object (member (codes "injector") (injector_json words.seed words.injector)
    (member (codes "rings") (array (items_of (map ring_json (settings_given words).rings)))
    (member (codes "workers") (array (items_of (workers_json words))) no_members)))

-- the text of the settings that the words give
abbrev pub settings_text : SettingsWords → List ℕ
settings_text words = compact_text (document_of words)

-- a ring without its place, and without what happened to it
abbrev pub ring_in : Block → RingData
ring_in block = record { size = record { n = block.n; k = block.k }; start = block.start }

-- ---- the answer

-- Just their text is printed, and it reads back as these settings, which a farm can run.
pub record IsSettingsAnswer (words : SettingsWords) (old new : Option (List ℕ)) : Type 0 where
  pub allowed : AreSettingsWords words
  pub printed : Appends old new (settings_text words)
  pub read : settings_of (settings_text words) ≡ Ok (settings_given words)
  pub settings : IsSettings (settings_given words)

-- the first of the seats' numbers that is out of limits, where the workers come first
abbrev pub IsSeatFault : SettingsWords → Field → Type 0
IsSeatFault words field.Workers = AreWorkers words.workers → ⊥
IsSeatFault words field.Actions = AreWorkers words.workers × (AreActions words → ⊥)
IsSeatFault words _ = ⊥

-- the first number that is out of limits, in the order in which settings are read
abbrev pub IsOutOfLimits : SettingsWords → Field → Type 0
IsOutOfLimits words field.Rings = ring_limit < length (sizes_of words)
IsOutOfLimits words field = AreRings (sizes_of words) × IsSeatFault words field

-- which refusals the words may meet: there is no size, something is out of limits, the first size
-- that is not allowed, or out of memory
abbrev pub IsWordsRefusal : SettingsWords → ToolError → Type 0
IsWordsRefusal words (tool.NoRing place) = (place ≡ 0) × (sizes_of words ≡ [])
IsWordsRefusal words (tool.Limit field) = IsOutOfLimits words field
IsWordsRefusal words (tool.Ring place cause) =
    (length (sizes_of words) ≤ ring_limit) × IsFirstFault (sizes_of words) place cause
IsWordsRefusal words tool.OutOfMemory = Unit {0}
IsWordsRefusal words _ = ⊥

-- Which refusals `settings` may meet: those of its words, and that the writer failed, which got a
-- prefix of the text.
abbrev pub IsSettingsRefusal : SettingsWords → Option (List ℕ) → Option (List ℕ) → ToolError
    → Type 0
IsSettingsRefusal words old new tool.Write =
    AreSettingsWords words × AppendsFront old new (settings_text words)
IsSettingsRefusal words old new e = IsWordsRefusal words e
