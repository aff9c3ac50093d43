-- How a replica answers each line (this project's own).
use Rattle.std.specs.Prelude.{◌≡◌, ℕ, true, false, List, [], ◌++◌, Option, None, Some, ◌⊎◌, codes, cond}
use Rattle.text_lines.specs.Spelling.{spaced, ended}
use Rattle.disks.specs.Held.{Held}
use Rattle.line_service.specs.declared.pending.Pending.{Pending}
use Rattle.line_service.specs.Stands.{AnsweringWith}
pub use Rattle.line_service.specs.Stands.{IsAdded}
use Rattle.segment_files.specs.Remarks.{remark_of}
use Rattle.line_replica.specs.declared.keys.Turn.{Turn}
use Rattle.line_replica.specs.declared.keys.Turn.TheVariants as turn
use Rattle.line_replica.specs.declared.reading.Tag.{Tag}
use Rattle.line_replica.specs.declared.numbered.Numbered.{Numbered}
use Rattle.line_replica.specs.declared.replica.Replica.{Replica}
use Rattle.line_replica.specs.Keys.{Table, told_of, last_of, with_told, turn_after, first_of, line_to_asker, forgotten_if}
use Rattle.line_replica.specs.Reading.{Heard, Tagged, Place, Digest, Plain, heard, did_at, is_forget, kept_text}
use Rattle.line_replica.specs.Running.{RunningView, with_said, next_of, at_place, place_line}
use Rattle.line_replica.specs.State.{kept_line, forget_line}

-- this is answered, this is kept of keys, this is noted, and nothing else happens
pub record IsTold {S : Type 0} (text : List ℕ) (keys : Table) (note : List ℕ) (old : Numbered S)
    (was : Option Held) (said noted : List ℕ) (new : Numbered S) (is : Option Held) : Type 0 where
  pub says : said ≡ text
  pub notes : noted ≡ note
  pub inner : new.inner ≡ old.inner
  pub keys_are : new.keys ≡ keys
  pub files : is ≡ was

-- the service inside answers, and its answer is passed on
pub record IsPassedOn {S : Type 0} (A : AnsweringWith S) (old : Numbered S) (was : Option Held)
    (line said noted : List ℕ) (new : Numbered S) (is : Option Held) : Type 0 where
  pub answered : A old.inner was line said noted new.inner is
  pub keys_are : new.keys ≡ old.keys

-- The service inside answers, and its answer is passed on. The first line of it is kept of the key,
-- if it is for the client that asked, and the remark of the key's line is noted after the notes of
-- the service inside.
pub record IsDone {S : Type 0} (A : AnsweringWith S) (tag : Tag) (old : Numbered S)
    (was : Option Held) (input said noted : List ℕ) (new : Numbered S) (is : Option Held) : Type 0
  where
    pub inside : List ℕ
    pub answered : A old.inner was input said inside new.inner is
    pub notes : noted ≡ inside ++ remark_of (kept_line tag (line_to_asker input said))
    pub keys_are : new.keys ≡ with_told old.keys tag.key tag.number (line_to_asker input said)

-- the last number of a key is above this one
abbrev pub past_line : ℕ → ℕ → List ℕ
past_line key last = spaced key ++ (codes "refused past " ++ ended last)

-- A line whose number is new is answered inside, and the first line of its answer is kept, if it is
-- for the client that asked. What is kept is sent again where the number is the last. One before it
-- is refused.
abbrev pub IsAnsweredOnce : {S : Type 0} → AnsweringWith S → Turn → Tag → Numbered S
    → Option Held → List ℕ → List ℕ → List ℕ → Numbered S → Option Held → Type 0
IsAnsweredOnce A turn.Fresh tag old was input said noted new is =
    IsDone A tag old was input said noted new is
IsAnsweredOnce A turn.Again tag old was input said noted new is =
    IsTold (first_of (told_of old.keys tag.key)) old.keys [] old was said noted new is
IsAnsweredOnce A (turn.Past last) tag old was input said noted new is =
    IsTold (past_line tag.key last) old.keys [] old was said noted new is

abbrev pub turn_of : Table → Tag → Turn
turn_of keys tag = turn_after (last_of keys tag.key) tag.number

-- the remark that a key is forgotten, if its last number is this one
abbrev pub forget_note : Turn → Tag → List ℕ
forget_note turn.Again tag = remark_of (forget_line tag)
forget_note _ tag = []

-- what is kept of keys, with no answer, after a line that says it
abbrev pub IsTagTaken : {S : Type 0} → AnsweringWith S → Option (List ℕ) → Tag → Numbered S
    → Option Held → List ℕ → List ℕ → List ℕ → Numbered S → Option Held → Type 0
IsTagTaken A (Some text) tag old was rest said noted new is =
    IsTold [] (with_told old.keys tag.key tag.number (kept_text text))
    (remark_of (kept_line tag (kept_text text))) old was said noted new is
IsTagTaken A None tag old was rest said noted new is =
    cond (is_forget rest)
    (IsTold [] (forgotten_if (turn_of old.keys tag) old.keys tag.key)
    (forget_note (turn_of old.keys tag) tag) old was said noted new is)
    (IsAnsweredOnce A (turn_of old.keys tag) tag old was rest said noted new is)

-- ---- the replica

-- what was answered is taken into the running digest
pub record IsTakenIn {S : Type 0} (answered : Numbered S → Numbered S → Type 0) (said : List ℕ)
    (old new : Replica S) : Type 0 where
  pub numbered : answered old.numbered new.numbered
  pub running : new.running ≡ with_said old.running said

-- a place in the log has this digest, and the remark of its line is noted
pub record IsPlaced {S : Type 0} (place : ℕ) (digest text : List ℕ) (old : Replica S)
    (was : Option Held) (said noted : List ℕ) (new : Replica S) (is : Option Held) : Type 0 where
  pub says : said ≡ text
  pub notes : noted ≡ remark_of (place_line place digest)
  pub numbered : new.numbered ≡ old.numbered
  pub running : new.running ≡ at_place place digest
  pub files : is ≡ was

-- this digest is that of a place, and this is said and noted of it
abbrev pub IsSetAt : ℕ → List ℕ → List ℕ → RunningView → Pending → Pending → Type 0
IsSetAt place digest text running before after =
    (running ≡ at_place place digest)
    × IsAdded before after text (remark_of (place_line place digest))

-- By what is heard of a line: a plain one is answered inside; a place is answered with the digest
-- of all that was answered since the last, or takes the digest that is given.
abbrev pub IsHeard : {S : Type 0} → AnsweringWith S → Heard → Replica S → Option Held → List ℕ
    → List ℕ → List ℕ → Replica S → Option Held → Type 0
IsHeard A (Tagged tag rest) old was line said noted new is =
    IsTakenIn
    (λ (a b : Numbered _). IsTagTaken A (did_at rest) tag a was rest said noted b is)
    said old new
IsHeard A (Place place) old was line said noted new is =
    IsPlaced place (next_of old.running.since) (place_line place (next_of old.running.since)) old
    was said noted new is
IsHeard A (Digest place digest) old was line said noted new is =
    IsPlaced place digest [] old was said noted new is
IsHeard A Plain old was line said noted new is =
    IsTakenIn
    (λ (a b : Numbered _). IsPassedOn A a was line said noted b is)
    said old new

-- what the service inside may be given of a line
abbrev pub input_of : Heard → List ℕ → List ℕ
input_of (Tagged tag rest) line = rest
input_of _ line = line

-- the service inside has answered, or nothing happened
abbrev pub IsAnsweredOrNot : {S : Type 0} → AnsweringWith S → S → Option Held → List ℕ → List ℕ
    → S → Option Held → Type 0
IsAnsweredOrNot A old was line noted new is =
    ((noted ≡ []) × (new ≡ old) × (is ≡ was))
    ⊎ ((said : List ℕ) × A old was line said noted new is)

-- the same with some notes, and with a disk before and after it
abbrev pub IsTriedInside : {S D : Type 0} → AnsweringWith S → (D → Option Held) → S → D → List ℕ
    → S → D → Type 0
IsTriedInside A holds old was line new is =
    (noted : List ℕ) × IsAnsweredOrNot A old (holds was) line noted new (holds is)

-- There was no memory for an answer, or to keep it: nothing is said, and no line is answered any
-- more.
pub record IsLost {S : Type 0} (A : AnsweringWith S) (old : Replica S) (was : Option Held)
    (line said noted : List ℕ) (new : Replica S) (is : Option Held) : Type 0 where
  pub answered : IsAnsweredOrNot A old.numbered.inner was line noted new.numbered.inner is
  pub says : said ≡ []
  pub lost : new.lost ≡ true

-- a line is answered as one hears it, and nothing is lost
pub record IsWhole {S : Type 0} (A : AnsweringWith S) (old : Replica S) (was : Option Held)
    (line said noted : List ℕ) (new : Replica S) (is : Option Held) : Type 0 where
  pub heard_as : IsHeard A (heard line) old was line said noted new is
  pub whole : new.lost ≡ false

-- A line is answered, or its answer is lost, as long as none was lost before.
pub record IsReplied {S : Type 0} (A : AnsweringWith S) (old : Replica S) (was : Option Held)
    (line said noted : List ℕ) (new : Replica S) (is : Option Held) : Type 0 where
  pub before : old.lost ≡ false
  pub answered : IsWhole A old was line said noted new is
      ⊎ IsLost A old was (input_of (heard line) line) said noted new is
