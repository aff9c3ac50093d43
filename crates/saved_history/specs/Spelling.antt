-- The one text of a saved history, line by line (this project's own format), and the values that
-- have one.
use Rattle.std.specs.Prelude.{◌≡◌, ℕ, ◌<◌, ◌^◌, List, ◌++◌, length, codes}
use Rattle.std.specs.List.{flat_map, AllByRecursion}
use Rattle.text_lines.specs.Spelling.{spaced, ended, row}
use Rattle.saved_history.specs.declared.saved.SavedEvent.{SavedEvent}
use Rattle.saved_history.specs.declared.saved.SavedEvent.TheVariants.{Granted, Refused, Member, Corrupted}
use Rattle.saved_history.specs.declared.saved.SavedSurvey.{SavedSurvey}
use Rattle.saved_history.specs.declared.saved.RingHeader.{RingHeader}
use Rattle.saved_history.specs.Content.{Block, Content}
use Rattle.saved_history.specs.Versions.{HasGroups, IsVersion}

-- ---- the lines

-- the text's first line, which says the version
abbrev pub first_line : ℕ → List ℕ
first_line version = codes "ringfarm " ++ ended version

-- a ring's place, its number of machines and its number of values
abbrev pub ring_line : ℕ → ℕ → ℕ → List ℕ
ring_line index n k = codes "ring " ++ (spaced index ++ (spaced n ++ ended k))

abbrev pub head_line : RingHeader → List ℕ
head_line h = ring_line h.index h.n h.k

-- the values that the ring started from
abbrev pub start_line : List ℕ → List ℕ
start_line values = codes "start " ++ row values

-- a pass that was granted, one that was refused, a pass as a member of a group, a corruption
abbrev pub event_line : SavedEvent → List ℕ
event_line (Granted seat machine order number answer) =
    codes "p "
    ++ (spaced seat
    ++ (spaced machine ++ (spaced order ++ (codes "g " ++ (spaced number ++ ended answer)))))
event_line (Refused seat machine order) =
    codes "p " ++ (spaced seat ++ (spaced machine ++ (spaced order ++ codes "n\n")))
event_line (Member seat machine order left number answer) =
    codes "m "
    ++ (spaced seat
    ++ (spaced machine ++ (spaced order ++ (spaced left ++ (spaced number ++ ended answer)))))
event_line (Corrupted seat machine value old) =
    codes "c " ++ (spaced seat ++ (spaced machine ++ (spaced value ++ ended old)))

-- the number of events
abbrev pub end_line : ℕ → List ℕ
end_line n = codes "end " ++ ended n

-- the survey of a seat
abbrev pub survey_line : SavedSurvey → List ℕ
survey_line v =
    codes "s "
    ++ (spaced v.seat
    ++ (spaced v.position
    ++ (spaced v.privileged ++ (spaced v.first ++ (spaced v.calm ++ ended v.rest)))))

-- the number of rings
abbrev pub done_line : ℕ → List ℕ
done_line n = codes "done " ++ ended n

-- ---- blocks and texts

-- the content of a ring's first line
abbrev pub head_of : Block → RingHeader
head_of b = record { index = b.index; n = b.n; k = b.k }

-- the part below it
abbrev pub below_head : Block → List ℕ
below_head b =
    start_line b.start
    ++ ((flat_map event_line b.events ++ end_line b.events_said) ++ flat_map survey_line b.surveys)

abbrev pub block_text : Block → List ℕ
block_text b = head_line (head_of b) ++ below_head b

-- The text: the first line, the blocks, and the number of rings.
abbrev pub text : Content → List ℕ
text s = first_line s.version ++ (flat_map block_text s.rings ++ done_line s.rings_said)

-- ---- the values that have a text: a version that there is, each number within its range, a start
-- of exactly n values, and a ring at least

-- an event in a text of this version: a member of a group fits only where group passes have lines,
-- the others in each version
abbrev pub EventFits : ℕ → SavedEvent → Type 0
EventFits version (Granted seat machine order number answer) =
    (seat < 2 ^ 32) × (machine < 2 ^ 32) × (order < 2 ^ 64) × (number < 2 ^ 64) × (answer < 2 ^ 64)
EventFits version (Refused seat machine order) =
    (seat < 2 ^ 32) × (machine < 2 ^ 32) × (order < 2 ^ 64)
EventFits version (Member seat machine order left number answer) =
    HasGroups version
    × (seat < 2 ^ 32)
    × (machine < 2 ^ 32)
    × (order < 2 ^ 64)
    × (left < 2 ^ 32)
    × (number < 2 ^ 64)
    × (answer < 2 ^ 64)
EventFits version (Corrupted seat machine value old) =
    (seat < 2 ^ 32) × (machine < 2 ^ 32) × (value < 2 ^ 32) × (old < 2 ^ 32)

pub record SurveyFits (v : SavedSurvey) : Type 0 where
  pub seat : v.seat < 2 ^ 32
  pub position : v.position < 2 ^ 64
  pub privileged : v.privileged < 2 ^ 32
  pub first : v.first < 2 ^ 32
  pub calm : v.calm < 2 ^ 64
  pub rest : v.rest < 2 ^ 64

pub record RingHeaderFits (h : RingHeader) : Type 0 where
  pub index : h.index < 2 ^ 32
  pub some : 0 < h.n
  pub n : h.n < 2 ^ 32
  pub k : h.k < 2 ^ 32

pub record BlockFits (version : ℕ) (b : Block) : Type 0 where
  pub head : RingHeaderFits (head_of b)
  pub start : length b.start ≡ b.n
  pub values : AllByRecursion (λ x. x < 2 ^ 32) b.start
  pub events : AllByRecursion (EventFits version) b.events
  pub events_said : b.events_said < 2 ^ 64
  pub surveys : AllByRecursion SurveyFits b.surveys

pub record Fits (s : Content) : Type 0 where
  pub version : IsVersion s.version
  pub some : 0 < length s.rings
  pub rings : AllByRecursion (BlockFits s.version) s.rings
  pub rings_said : s.rings_said < 2 ^ 32

-- ---- texts without group passes

-- an event that is not a member of a group
abbrev pub IsNoMember : SavedEvent → Type 0
IsNoMember (Granted seat machine order number answer) = Unit {0}
IsNoMember (Refused seat machine order) = Unit {0}
IsNoMember (Member seat machine order left number answer) = ⊥
IsNoMember (Corrupted seat machine value old) = Unit {0}

-- no event of a block is one
abbrev pub BlockHasNoMember : Block → Type 0
BlockHasNoMember b = AllByRecursion IsNoMember b.events

-- nor of a whole text
abbrev pub HasNoMember : Content → Type 0
HasNoMember s = AllByRecursion BlockHasNoMember s.rings
