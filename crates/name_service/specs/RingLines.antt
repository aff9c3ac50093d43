-- A line about a name is a line of its ring (this project's own).
use Rattle.std.specs.Prelude.{◌≡◌, ℕ, zero, suc, ◌<◌, ◌^◌, true, List, [], ◌∷◌, ◌++◌, length, Option, None, Some, slice_get, decimal, ◌⊎◌}
use Rattle.line_service.specs.Answering.{Answers}
use Rattle.segment_files.specs.Remarks.{without_remarks}
use Rattle.segment_files.specs.RemarkLaws.{AreLines}
use Rattle.held_locks.specs.declared.answers.Holder.{Holder}
use Rattle.held_locks.specs.declared.answers.Answer.TheVariants as answer
use Rattle.held_locks.specs.Kept.{LockView}
use Rattle.held_locks.specs.Locks.{Ask, Release}
use Rattle.lock_protocol.specs.declared.answers.Denial.{Denial}
use Rattle.lock_protocol.specs.Names.{Names}
use Rattle.lock_protocol.specs.Answers.{denial_line}
use Rattle.lock_protocol.specs.Asks as lines
use Rattle.lock_protocol.specs.Inputs.{input_line, IsReadAs}
use Rattle.lock_protocol.specs.Views as input
use Rattle.lock_names.specs.declared.replies.Reply.{Reply}
use Rattle.lock_names.specs.declared.replies.Reply.TheVariants as reply
use Rattle.lock_names.specs.Names.{Bound, said_of, fresh}
use Rattle.lock_names.specs.Kept.{NamedView, named_of, own_number, reached}
use Rattle.name_service.specs.declared.service.NameTerms.{NameTerms}
use Rattle.lock_journal.specs.Asking.{one_ask}
use Rattle.lock_journal.specs.Counting.{SegmentView}
use Rattle.lock_journal.specs.Answering.{IsLineAnswered}
use Rattle.lock_journal.specs.Told.{Telling, text_of}
use Rattle.name_service.specs.Naming.{NamingView}
use Rattle.name_service.specs.Noting.{reply_line, line_of_said}
use Rattle.name_service.specs.Serving.{IsNameLineAnswered}
use Rattle.name_service.specs.RightNames.{AreRightNames}

-- ---- the rings as locks of their own

-- the names of rings among rings: their numbers
abbrev pub numbers_from : ℕ → ℕ → Names
numbers_from ring zero = []
numbers_from ring (suc n) = decimal ring ∷ numbers_from (suc ring) n

-- Each ring is a lock, with its number as its name. Their segment is due already, so that nothing
-- depends on how many lines its journal has had.
abbrev pub ring_segment : NamedView → SegmentView
ring_segment v = record {
  locks = v.locks;
  names = numbers_from 0 (length v.locks);
  left = [];
  remaining = 0;
  short = true;
}

-- ---- a line of a ring

-- what a line asks of a name is asked of a ring by its number; a release has this number of a grant
abbrev pub ring_ask : ℕ → ℕ → lines.Ask → lines.Ask
ring_ask ring number (lines.acquire name label) = lines.acquire (decimal ring) label
ring_ask ring number (lines.try name label) = lines.try (decimal ring) label
ring_ask ring number (lines.release name token) = lines.release (decimal ring) number
ring_ask ring number (lines.cancel name) = lines.cancel (decimal ring)
ring_ask ring number lines.leave = lines.leave
ring_ask ring number (lines.corrupt name machine value) = lines.corrupt (decimal ring) machine value
ring_ask ring number (lines.stats name) = lines.stats (decimal ring)

-- the number of the hold that is released: the ring's own, if the token is that of the name, else 0,
-- which no hold has
abbrev pub number_for : Bound → Ask → Option Holder → ℕ
number_for b (Release token) h = own_number b token h
number_for b ask h = 0

abbrev pub holder_at : Option LockView → Option Holder
holder_at None = None
holder_at (Some v) = v.holder

-- the line of the ring that is reached, if one is
abbrev pub line_at : NamedView → ℕ → lines.Ask → Ask → Option (ℕ × Bound) → Option (List ℕ)
line_at v client ask a None = None
line_at v client ask a (Some p) = Some (input_line client
    (ring_ask p.0 (number_for p.1 a (holder_at (slice_get v.locks p.0))) ask))

-- the line of rings for what a line asks: of the ring that its name reaches; or that all are left
abbrev pub line_for : NamedView → ℕ → lines.Ask → Option (List ℕ × Ask) → Option (List ℕ)
line_for v client ask None = Some (input_line client ask)
line_for v client ask (Some (name, a)) = line_at v client ask a (reached (named_of v) name a)

abbrev pub ring_line : NamedView → ℕ → lines.Ask → Option (List ℕ)
ring_line v client ask = line_for v client ask (one_ask ask)

-- How a ring is bound where it is asked: it has a name; or it is free, and the name that is asked
-- would be bound to it so.
abbrev pub IsBoundIn : NamedView → ℕ → Bound → Type 0
IsBoundIn v ring b =
    (slice_get v.names ring ≡ Some (Some b))
    ⊎ ((slice_get v.names ring ≡ Some None) × (b ≡ fresh (named_of v) b.name ring))

-- The answers of rings are said so: each of the ring's name, and with the token of the name.
abbrev pub AreToldByName : NamedView → List Telling → List ℕ → Type 0
AreToldByName old [] said = said ≡ []
AreToldByName old (t ∷ ts) said =
    (b : Bound)
    × (rest : List ℕ)
    × IsBoundIn old t.lock b
    × (said ≡ line_of_said (said_of b (t.client, t.said)) ++ rest)
    × AreToldByName old ts rest

-- For what a client's line asks the rings answer this line as locks do, and note the same, without
-- the remarks; and what they answer is said by name.
pub record IsOfRing (terms : NameTerms) (old : NamedView) (named said note : List ℕ)
    (new : NamedView) (line told : List ℕ) : Type 0 where
  pub client : ℕ
  pub ask : lines.Ask
  pub reads : IsReadAs named (input.Asked client ask)
  pub line_is : ring_line old client ask ≡ Some line
  pub answered : IsLineAnswered terms.lines (ring_segment old) line told (without_remarks note)
      (ring_segment new)
  pub tellings : List Telling
  pub text : told ≡ text_of (numbers_from 0 (length old.locks)) tellings
  pub by_name : AreToldByName old tellings said

-- ---- a line of no ring

-- a refusal; or the zeros of a name that no ring has
abbrev pub IsOfNobody : Reply → Type 0
IsOfNobody reply.Names = Unit {0}
IsOfNobody (reply.Lock (answer.Refused why)) = Unit {0}
IsOfNobody (reply.Lock (answer.Stats s)) =
    s ≡ record { machines = 0; waiters = 0; passes = 0; holder = None }
IsOfNobody (reply.Lock a) = ⊥

-- nothing is said; or that a line is denied; or such a reply
abbrev pub ReportsNothing : List ℕ → Type 0
ReportsNothing said =
    (said ≡ [])
    ⊎ (((client : ℕ) × (why : Denial) × (said ≡ denial_line client why))
    ⊎ ((client : ℕ)
    × (name : List ℕ)
    × (r : Reply)
    × IsOfNobody r
    × (said ≡ reply_line client name r)))

-- nothing has changed, and no hold is reported
pub record IsOfNoRing (old : NamedView) (said note : List ℕ) (new : NamedView) : Type 0 where
  pub same : new ≡ old
  pub notes : note ≡ []
  pub nothing : ReportsNothing said

-- ---- lines

-- Each of the lines is the next one of these lines of rings, or is of none.
abbrev pub AreOfRings : NameTerms → NamingView → List (List ℕ) → List ℕ → List ℕ → NamingView
    → List (List ℕ) → List ℕ → Type 0
AreOfRings terms old [] said noted new rings told =
    (said ≡ []) × (noted ≡ []) × (new ≡ old) × (rings ≡ []) × (told ≡ [])
AreOfRings terms old (line ∷ lines) said noted new rings told =
    (mid : NamingView)
    × (first later note notes now next : List ℕ)
    × (more : List (List ℕ))
    × IsNameLineAnswered terms old line first note mid
    × (((rings ≡ more) × (now ≡ []) × IsOfNoRing old.named first note mid.named)
    ⊎ ((ring : List ℕ)
    × (rings ≡ ring ∷ more)
    × IsOfRing terms old.named line first note mid.named ring now))
    × (said ≡ first ++ later)
    × (noted ≡ note ++ notes)
    × (told ≡ now ++ next)
    × AreOfRings terms mid lines later notes new more next

-- Lines about names are lines of rings, which the rings answer as locks do, one after the other; what
-- is noted is whole lines; and the names are right after them.
pub record HaveRingLines (terms : NameTerms) (old : NamingView) (lines : List (List ℕ))
    (said noted : List ℕ) (new : NamingView) : Type 0 where
  pub rings : List (List ℕ)
  pub told : List ℕ
  pub each : AreOfRings terms old lines said noted new rings told
  pub answers : Answers (IsLineAnswered terms.lines) (ring_segment old.named) rings told
      (without_remarks noted) (ring_segment new.named)
  pub whole : AreLines noted
  pub right : AreRightNames new.named

-- A law: lines about names are lines of rings.
abbrev pub NameLinesAreRingLines : Type 0
NameLinesAreRingLines =
    (terms : NameTerms) (old new : NamingView) (lines : List (List ℕ)) (said noted : List ℕ)
    → AreRightNames old.named → new.named.top < 2 ^ 64
    → Answers (IsNameLineAnswered terms) old lines said noted new
    → HaveRingLines terms old lines said noted new
