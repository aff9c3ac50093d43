-- The lines that bring a replica back (this project's own).
use Rattle.std.specs.Prelude.{◌≡◌, ℕ, Bool, false, cond, nat_lt, List, [], ◌∷◌, ◌++◌, length, map, take, Option, codes}
use Rattle.std.specs.List.{flat_map}
use Rattle.text_lines.specs.Spelling.{spaced, ended}
use Rattle.text_lines.specs.Reading.{word_at}
use Rattle.disks.specs.Held.{Held}
use Rattle.text_lines.specs.Limits.{line_limit}
use Rattle.line_service.specs.Answering.{joined_lines}
use Rattle.line_service.specs.Stands.{AnsweringWith}
use Rattle.segment_files.specs.Remarks.{remark_of}
use Rattle.segment_files.specs.Spelling.{digest_digits}
use Rattle.line_replica.specs.declared.reading.Tag.{Tag}
use Rattle.line_replica.specs.declared.replica.Replica.{Replica}
use Rattle.line_replica.specs.declared.restorable.Restorable.{Restorable}
use Rattle.line_replica.specs.Keys.{ToldView, Table}
use Rattle.line_replica.specs.Reading.{on_read, is_none_left}
use Rattle.line_replica.specs.Running.{place_line}

-- the line of a key: its last number, and the first line of its answer
abbrev pub did_text : List ℕ → List ℕ
did_text [] = codes "\n"
did_text (b ∷ bs) = b ∷ bs

abbrev pub key_line : ℕ × ToldView → List ℕ
key_line e = spaced e.0 ++ (spaced e.1.number ++ (codes "did " ++ did_text e.1.first))

abbrev pub key_lines : Table → List (List ℕ)
key_lines keys = map key_line keys

-- the line of the last place, with its digest: none before the first
abbrev pub lines_at : ℕ → List ℕ → List (List ℕ)
lines_at place [] = []
lines_at place (b ∷ bs) = place_line place (take digest_digits (b ∷ bs)) ∷ []

-- the lines of a replica's own state: those of its keys, rising, and of its last place
abbrev pub own_lines : {S : Type 0} → Replica S → List (List ℕ)
own_lines r = key_lines r.numbered.keys ++ lines_at r.running.place r.running.since

-- the lines of the service inside, and the replica's own
abbrev pub lines_of : {S : Type 0} → (S → List (List ℕ)) → Replica S → List (List ℕ)
lines_of inner r = inner r.numbered.inner ++ own_lines r

-- ---- the lines of what has changed, and their remarks

-- this number is the last of the key, with this first line
abbrev pub kept_line : Tag → List ℕ → List ℕ
kept_line tag first = key_line (tag.key, record { number = tag.number; first = first })

-- nothing is kept of the key any more
abbrev pub forget_line : Tag → List ℕ
forget_line tag = spaced tag.key ++ (spaced tag.number ++ codes "forget\n")

-- the remarks of these lines, one after the other
abbrev pub remarks_of : List (List ℕ) → List ℕ
remarks_of lines = flat_map remark_of lines

-- ---- how the state is answered

-- the line is the word state
unfoldable pub is_state : List ℕ → Bool
is_state line =
    cond (nat_lt line_limit (length line)) false
    (on_read (word_at (codes "state\n") line) false is_none_left)

-- these lines, and how many they are
abbrev pub state_text : List (List ℕ) → List ℕ
state_text lines = joined_lines lines ++ (codes "state " ++ ended (length lines))

-- the state is answered, and nothing changes
pub record IsStateTold {S : Type 0} (lines : List (List ℕ)) (old : Restorable S)
    (was : Option Held) (said noted : List ℕ) (new : Restorable S) (is : Option Held) : Type 0
  where
    pub says : said ≡ state_text lines
    pub notes : noted ≡ []
    pub same : new ≡ old
    pub files : is ≡ was

-- the state is answered where it is asked for, and any other line is answered inside
abbrev pub IsRestorable : {S : Type 0} → AnsweringWith S → (S → List (List ℕ))
    → AnsweringWith (Restorable S)
IsRestorable A lines old was line said noted new is =
    cond (is_state line) (IsStateTold (lines old.inner) old was said noted new is)
    (A old.inner was line said noted new.inner is)
