-- Keys and a running digest that come back by the lines of a state (this project's own).
use Rattle.std.specs.Prelude.{ℕ, List, false, Option, ◌≡◌, ◌+◌, ◌≢◌, [], ◌∷◌, length, ◌⊎◌, ◌++◌, ◌<◌, ◌≤◌, ◌^◌, take}
use Rattle.std.specs.List.{AllByRecursion}
use Rattle.disks.specs.Held.{Held}
use Rattle.text_lines.specs.Limits.{line_limit}
use Rattle.line_service.specs.Answering.{IsLine, Answers}
use Rattle.line_service.specs.Stands.{AnsweringWith, by_stand, stand}
use Rattle.segment_files.specs.Spelling.{DigestFits, digest_digits}
use Rattle.line_replica.specs.declared.replica.Replica.{Replica}
use Rattle.line_replica.specs.Keys.{ToldView, Table, first_line}
use Rattle.line_replica.specs.Reading.{Place, heard}
use Rattle.line_replica.specs.Replies.{IsReplied}
use Rattle.line_replica.specs.Running.{RunningView, at_place}
use Rattle.line_replica.specs.State.{key_line, own_lines, remarks_of}

-- a replica has no key, and is before the first place
pub record IsFresh {S : Type 0} (r : Replica S) : Type 0 where
  pub keys : r.numbered.keys ≡ []
  pub running : r.running ≡ at_place 0 []

-- ---- what a replica keeps

-- the first line of an answer as it is kept: a line that is not empty, or nothing at all
abbrev pub IsFirst : List ℕ → Type 0
IsFirst first = (first ≡ []) ⊎ (IsLine first × (first ≢ 10 ∷ []))

-- the last number of a key, whose line is not too long
pub record IsKept (e : ℕ × ToldView) : Type 0 where
  pub key : e.0 < 2 ^ 64
  pub number : e.1.number < 2 ^ 64
  pub first : IsFirst e.1.first
  pub short : length (key_line e) ≤ line_limit

-- each key is below those after it
abbrev pub IsRising : Table → Type 0
IsRising [] = Unit {0}
IsRising (e ∷ es) = AllByRecursion (λ (d : ℕ × ToldView). e.0 < d.0) es × IsRising es

-- the digest at a place, and what was answered since
pub record IsBehind (r : RunningView) : Type 0 where
  pub place : r.place < 2 ^ 64
  pub digest : List ℕ
  pub told : List ℕ
  pub since : r.since ≡ digest ++ told
  pub digits : DigestFits digest

-- before the first place, or after one
abbrev pub IsRunning : RunningView → Type 0
IsRunning r = (r ≡ at_place 0 []) ⊎ IsBehind r

-- what is kept can be written as lines
pub record IsSound {S : Type 0} (r : Replica S) : Type 0 where
  pub rising : IsRising r.numbered.keys
  pub each : AllByRecursion IsKept r.numbered.keys
  pub running : IsRunning r.running

-- ---- laws: what a replica keeps can be written as lines

-- A replica with no key, before the first place, keeps nothing.
abbrev pub FreshIsSound : {S : Type 0} → AnsweringWith S → Type 0
FreshIsSound {S} A = (r : Replica S) → IsFresh r → IsSound r

-- the answer to a line begins with one that can be kept: a number, a key and the word did, in 46
-- bytes at most, have room before it
pub record IsKeepable (said : List ℕ) : Type 0 where
  pub first : IsFirst (first_line said)
  pub short : length (first_line said) + 46 ≤ line_limit

-- It stays so, whatever is asked, as long as answers begin with lines that can be kept.
abbrev pub SoundStays : {S : Type 0} → AnsweringWith S → Type 0
SoundStays A =
    (old new : Replica _) (was is : Option Held) (line said noted : List ℕ) → IsSound old
    → IsLine line → IsKeepable said → IsReplied A old was line said noted new is
    → new.lost ≡ false → IsSound new

-- The lines of such a state are lines: each has its LF at its end and nowhere else.
abbrev pub OwnLinesAreLines : {S : Type 0} → AnsweringWith S → Type 0
OwnLinesAreLines {S} A = (r : Replica S) → IsSound r → AllByRecursion IsLine (own_lines r)

-- ---- laws: it comes back

-- the running digest at the last place
abbrev pub at_last : RunningView → RunningView
at_last r = at_place r.place (take digest_digits r.since)

-- The replica has the keys of another one and its digest at the last place; nothing is said, the
-- remarks of the other's own lines are noted, no file changes, and the service inside is the one
-- that it was.
pub record IsBack {S : Type 0} (source old : Replica S) (was : Option Held)
    (said noted : List ℕ) (new : Replica S) (is : Option Held) : Type 0 where
  pub keys : new.numbered.keys ≡ source.numbered.keys
  pub running : new.running ≡ at_last source.running
  pub inner : new.numbered.inner ≡ old.numbered.inner
  pub says : said ≡ []
  pub notes : noted ≡ remarks_of (own_lines source)
  pub files : is ≡ was

-- A replica with no key, before the first place, that is given the lines of another one's keys and
-- last place, has what that one had.
abbrev pub KeysComeBack : {S : Type 0} → AnsweringWith S → Type 0
KeysComeBack A =
    (source old new : Replica _) (was is : Option Held) (said noted : List ℕ) → IsSound source
    → IsFresh old
    → Answers (by_stand (IsReplied A)) (stand old was) (own_lines source) said noted (stand new is)
    → new.lost ≡ false → IsBack source old was said noted new is

-- right after a place the digest at the last place is the running digest
abbrev pub PlacesAreLast : {S : Type 0} → AnsweringWith S → Type 0
PlacesAreLast A =
    (old new : Replica _) (was is : Option Held) (place : ℕ) (line said noted : List ℕ)
    → IsSound old → heard line ≡ Place place → IsReplied A old was line said noted new is
    → new.lost ≡ false → at_last new.running ≡ new.running
