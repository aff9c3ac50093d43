-- What the checker of a chain keeps, and its answers.
use Rattle.std.specs.Prelude.{◌≡◌, ℕ, ◌+◌, ◌↔◌, Bool, IsTrue, false, List, [], ◌∷◌, ◌++◌, length, map, Option, Some, None, Result, Ok, Err, ◌⊎◌}
use Rattle.std.specs.List.{AllByRecursion}
use Rattle.text_lines.specs.Texts.{Spells, IsCutShort, IsFirstBadLine}
use Rattle.text_lines.specs.declared.answer.ReadError.{ReadError}
use Rattle.text_lines.specs.declared.answer.ReadError.TheVariants as reading
use Rattle.ring_model.specs.Ring.{ring_with}
use Rattle.saved_history.specs.declared.saved.Saved.{Saved}
use Rattle.saved_history.specs.Content.{content}
use Rattle.journal.specs.declared.errors.RecoverError.{RecoverError}
use Rattle.journal.specs.declared.errors.RecoverError.TheVariants as recovery
use Rattle.journal.specs.Recovery.{IsRecovered, IsRightRecovery}
use Rattle.segment_files.specs.declared.places.SegmentPlace.{SegmentPlace}
use Rattle.segment_files.specs.declared.links.SegmentLink.{SegmentLink}
use Rattle.segment_files.specs.declared.sums.ChainSums.{ChainSums}
use Rattle.segment_files.specs.declared.chain.Checked.{Checked}
use Rattle.segment_files.specs.declared.segments.Segment.{Segment}
use Rattle.segment_files.specs.declared.errors.SegmentError.{SegmentError}
use Rattle.segment_files.specs.declared.errors.SegmentError.TheVariants as refused
use Rattle.segment_files.specs.Spelling.{Head, head_of, HeadFits, head_text, no_digest}
use Rattle.segment_files.specs.Remarks.{lines_in, without_remarks, line_among}
use Rattle.segment_files.specs.Meaning.{BeginsNoHead}
use Rattle.segment_files.specs.Sums.{no_sums, sums_after}
use Rattle.segment_files.specs.Files.{File, IsFile, IsAllOf, IsWhole, Place, Link, opening_link, link_after, AreChained, HasBases, AreStarts, IsShort, Follows}

-- the content of the program's own types
abbrev pub place_in : SegmentPlace → Place
place_in p = record { base = p.base; ring = ring_with p.k p.values.items }

abbrev pub link_in : SegmentLink → Link
link_in l = record {
  number = l.before + 1;
  behind = l.behind;
  places = map place_in l.places.items;
}

abbrev pub file_in : List ℕ → Segment → File
file_in bytes s = record { bytes = bytes; head = head_of s.head; content = content s.saved }

-- where a chain is: what the next file must say, and what the files so far add up to
pub record State : Type 0 where
  pub link : Link
  pub sums : ChainSums

abbrev pub state_in : Checked → State
state_in c = record { link = link_in c.link; sums = c.sums }

-- where it is, none before its first file
abbrev pub states_in : Option Checked → Option State
states_in None = None
states_in (Some c) = Some (state_in c)

-- what a file must say there
abbrev pub asked : Option State → File → Link
asked None f = opening_link f
asked (Some s) f = s.link

-- the sums there
abbrev pub sums_at : Option State → ChainSums
sums_at None = no_sums
sums_at (Some s) = s.sums

-- the digest that the next file must have there
abbrev pub digest_at : Option State → List ℕ
digest_at None = no_digest
digest_at (Some s) = s.link.behind

-- where it is after a file more
abbrev pub state_after : Option State → File → State
state_after s f = record { link = link_after f; sums = sums_after (sums_at s) f }

-- ---- refusals

-- how many lines a head has
abbrev pub head_lines : Head → ℕ
head_lines h = 2 + length h.bases

-- the number of a line of a file, remarks counted: the m-th one after the head that is not a remark
abbrev pub file_line : Head → List ℕ → ℕ → ℕ
file_line h rest m = line_among (lines_in rest) m + head_lines h

-- the bytes begin with a head, of which and of the bytes after it this holds
pub record AfterHead (bytes : List ℕ) (Holds : Head → List ℕ → Type 0) : Type 0 where
  pub head : Head
  pub rest : List ℕ
  pub fits : HeadFits head
  pub spelled : bytes ≡ head_text head ++ rest
  pub holds : Holds head rest

-- the bytes are those of a file, of which this holds
pub record OfSegment (bytes : List ℕ) (Holds : File → Type 0) : Type 0 where
  pub file : File
  pub same : file.bytes ≡ bytes
  pub segment : IsFile file
  pub holds : Holds file

-- The number is the next one; the digest is that of the file before, too; and so on: the tests in
-- their order.
abbrev pub IsNext : Link → File → Type 0
IsNext l f = f.head.number ≡ l.number

abbrev pub IsBehind : Link → File → Type 0
IsBehind l f = IsNext l f × (f.head.behind ≡ l.behind)

abbrev pub IsBased : Link → File → Type 0
IsBased l f = IsBehind l f × HasBases l f

abbrev pub IsStarted : Link → File → Type 0
IsStarted l f = IsBased l f × AreStarts l.places f.content.rings

-- The refusal is right: the head or the journal, without its remarks, is refused so, where a line
-- is named as it is in the file; or it is the first test that fails; memory aside.
abbrev pub IsRightRefusal : Option State → List ℕ → Bool → SegmentError → Type 0
IsRightRefusal l bytes last refused.Truncated =
    IsCutShort (Spells HeadFits head_text) bytes
    ⊎ AfterHead bytes (λ h rest. IsRightRecovery (without_remarks rest) (Err recovery.Truncated))
IsRightRefusal l bytes last (refused.Syntax line) =
    (BeginsNoHead bytes × IsFirstBadLine (Spells HeadFits head_text) bytes line)
    ⊎ AfterHead bytes (λ h rest. (m : ℕ)
    × (line ≡ file_line h rest m)
    × IsRightRecovery (without_remarks rest) (Err (recovery.Syntax m)))
IsRightRefusal l bytes last (refused.Bad line kind) =
    AfterHead bytes (λ h rest. (m : ℕ)
    × (line ≡ file_line h rest m)
    × IsRightRecovery (without_remarks rest) (Err (recovery.Bad m kind)))
IsRightRefusal l bytes last refused.Number = OfSegment bytes (λ f. ¬ IsNext (asked l f) f)
IsRightRefusal l bytes last refused.Behind =
    OfSegment bytes (λ f. IsNext (asked l f) f × (¬ IsBehind (asked l f) f))
IsRightRefusal l bytes last refused.Base =
    OfSegment bytes (λ f. IsBehind (asked l f) f × (¬ IsBased (asked l f) f))
IsRightRefusal l bytes last refused.Start =
    OfSegment bytes (λ f. IsBased (asked l f) f × (¬ IsStarted (asked l f) f))
IsRightRefusal l bytes last refused.Full =
    OfSegment bytes (λ f. IsStarted (asked l f) f × (¬ AllByRecursion IsShort f.content.rings))
IsRightRefusal l bytes last refused.Unfinished =
    (last ≡ false) × OfSegment bytes (λ f. Follows (asked l f) f × (¬ IsWhole f))
IsRightRefusal l bytes last refused.OutOfMemory = Unit {0}

-- ---- the answers

-- the bytes are a file that follows, and unless it is the last one nothing is left out of it
pub record IsAdded (l : Option State) (bytes : List ℕ) (last : Bool) (new : State) : Type 0 where
  pub file : File
  pub same : file.bytes ≡ bytes
  pub follows : Follows (asked l file) file
  pub whole : last ≡ false → IsWhole file
  pub next : new ≡ state_after l file

-- The right answer: where the chain is then, seen by view, after a file that follows; or a right
-- refusal.
abbrev pub IsRightStep : {X : Type 0} → (X → State) → Option State → List ℕ → Bool
    → Result X SegmentError → Type 0
IsRightStep view l bytes last (Ok x) = IsAdded l bytes last (view x)
IsRightStep view l bytes last (Err e) = IsRightRefusal l bytes last e

-- The right answer to a file that is added: where the chain is then, if the file follows; or a right
-- refusal, and nothing has changed.
abbrev pub IsRightAdd : Option State → List ℕ → Bool → Option State
    → Result (Unit {0}) SegmentError → Type 0
IsRightAdd old bytes last new (Ok u) =
    (s : State) × (new ≡ Some s) × IsAdded old bytes last s
IsRightAdd old bytes last new (Err e) = (new ≡ old) × IsRightRefusal old bytes last e

-- ---- the steps

-- a refusal of the head by its name here
abbrev pub refused_head : ReadError → SegmentError
refused_head (reading.Syntax line) = refused.Syntax line
refused_head reading.Truncated = refused.Truncated
refused_head reading.OutOfMemory = refused.OutOfMemory

-- a refusal of the journal, whose lines are numbered so in the file
abbrev pub refused_journal : (ℕ → ℕ) → RecoverError → SegmentError
refused_journal in_file recovery.Truncated = refused.Truncated
refused_journal in_file (recovery.Syntax line) = refused.Syntax (in_file line)
refused_journal in_file (recovery.Bad line kind) = refused.Bad (in_file line) kind
refused_journal in_file recovery.OutOfMemory = refused.OutOfMemory

-- the history that is recovered of a journal, and whether nothing is left out; or a right refusal
abbrev pub IsReadJournal : List ℕ → Result (Saved × Bool) RecoverError → Type 0
IsReadJournal bytes (Ok s) =
    IsRecovered bytes (content s.0) × (IsTrue s.1 ↔ IsAllOf bytes (content s.0))
IsReadJournal bytes (Err e) = IsRightRecovery bytes (Err e)

-- the line that it names, 0 if it names none
abbrev pub line_in : RecoverError → ℕ
line_in recovery.Truncated = 0
line_in (recovery.Syntax line) = line
line_in (recovery.Bad line kind) = line
line_in recovery.OutOfMemory = 0

-- The file that the bytes are, and whether nothing is left out; or a right refusal.
abbrev pub IsReadSegment : List ℕ → Result Segment SegmentError → Type 0
IsReadSegment bytes (Ok s) = IsFile (file_in bytes s) × (IsTrue s.whole ↔ IsWhole (file_in bytes s))
IsReadSegment bytes (Err e) = (l : Option State) (last : Bool) → IsRightRefusal l bytes last e

-- all tests are passed, or this is the first that fails
abbrev pub IsTested : Link → File → Result (Unit {0}) SegmentError → Type 0
IsTested l f (Ok u) = IsStarted l f × AllByRecursion IsShort f.content.rings
IsTested l f (Err refused.Number) = ¬ IsNext l f
IsTested l f (Err refused.Behind) = IsNext l f × (¬ IsBehind l f)
IsTested l f (Err refused.Base) = IsBehind l f × (¬ IsBased l f)
IsTested l f (Err refused.Start) = IsBased l f × (¬ IsStarted l f)
IsTested l f (Err refused.Full) = IsStarted l f × (¬ AllByRecursion IsShort f.content.rings)
IsTested l f (Err _) = ⊥

-- ---- the chain of the files that were added

-- The files lead from where a chain was to where it is: each of them follows, and nothing is left
-- out of any.
abbrev pub LeadTo : Option State → List File → Option State → Type 0
LeadTo l [] m = l ≡ m
LeadTo l (f ∷ fs) m =
    Follows (asked l f) f × IsWhole f × LeadTo (Some (state_after l f)) fs m

-- After files that lead there the new one makes a chain with them; and if it is not the last, they
-- all lead to where the chain is then.
pub record MakesChain (fs : List File) (bytes : List ℕ) (last : Bool) (new : Option State) : Type 0
  where
    pub file : File
    pub same : file.bytes ≡ bytes
    pub chain : AreChained (fs ++ file ∷ [])
    pub on : last ≡ false → LeadTo None (fs ++ file ∷ []) new

-- Of some bytes there is one file.
abbrev pub OneFile : Type 0
OneFile = (f g : File) → f.bytes ≡ g.bytes → IsFile f → IsFile g → f ≡ g

-- The law: files that were added, one after the other, are a chain.
abbrev pub AddedAreChained : Type 0
AddedAreChained =
    (fs : List File) (old new : Option State) (bytes : List ℕ) (last : Bool) → LeadTo None fs old
    → IsRightAdd old bytes last new (Ok tt) → MakesChain fs bytes last new
