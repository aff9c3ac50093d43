-- A ring without end, the file of a chain that its segment is, and its journal (this project's own).
use Rattle.std.specs.Prelude.{◌≡◌, ℕ, ◌+◌, ◌<◌, ◌^◌, ◌-◌, Bool, false, true, List, [], ◌∷◌, ◌++◌, length, drop, ◌⊎◌}
use Rattle.std.specs.List.{flat_map}
use Rattle.saved_history.specs.Spelling.{Fits}
use Rattle.ring_check.specs.Legal.{IsLegalText}
use Rattle.journal.specs.Spelling.{journal_line, journal_head}
use Rattle.ring_model.specs.declared.bases.Base.{Base}
use Rattle.ring_model.specs.Bases.{IsBase, base_after}
use Rattle.segment_files.specs.Spelling.{Head, HeadFits, DigestFits, head_text, digest_of, no_digest}
use Rattle.segment_files.specs.Files.{File}
use Rattle.one_thread_ring.specs.Journals.{line_of_survey, event_lines}
use Rattle.one_thread_ring.specs.Rings.{RingView}
use Rattle.one_thread_ring.specs.Texts.{saved_alone}
use Rattle.endless_ring.specs.Endless.{EndlessView, IsEndless, IsNextRing}
use Rattle.endless_ring.specs.declared.files.Looked.{Looked}

-- the number of a file, and the digest of the file before it
pub record PlaceView : Type 0 where
  pub number : ℕ
  pub behind : List ℕ

-- a place that a file can have
pub record IsPlace (p : PlaceView) : Type 0 where
  pub first : 0 < p.number
  pub behind : DigestFits p.behind

-- the first file has no file before it
abbrev pub first_place : PlaceView
first_place = record { number = 1; behind = no_digest }

-- what the journal has of the segment, if one is kept: this many of its events, and all surveys but
-- these
pub record Notes : Type 0 where
  pub kept : Bool
  pub events : ℕ
  pub looked : List Looked

-- no journal is kept
abbrev pub no_notes : Notes
no_notes = record { kept = false; events = 0; looked = [] }

-- the ring, the place of its segment's file, and its journal
pub record FilesView : Type 0 where
  pub ring : EndlessView
  pub place : PlaceView
  pub notes : Notes

-- The invariant of such a ring at every moment.
pub record IsFiled (d : FilesView) : Type 0 where
  pub ring : IsEndless d.ring
  pub place : IsPlace d.place

-- ---- texts

-- the head of a file at this place, of one ring with this base
abbrev pub head_at : PlaceView → Base → Head
head_at p b = record { number = p.number; behind = p.behind; bases = b ∷ [] }

-- The text of the file at this place of a ring's segment as it is: its head, and a journal that
-- begins with all of the segment, and has no call after it.
abbrev pub file_text : PlaceView → EndlessView → List ℕ
file_text p e = head_text (head_at p e.base) ++ journal_head (saved_alone e.ring)

-- the bytes are that text, and what they spell is legal and fits
pub record IsTextAt (p : PlaceView) (e : EndlessView) (bytes : List ℕ) : Type 0 where
  pub spelled : bytes ≡ file_text p e
  pub head : HeadFits (head_at p e.base)
  pub fits : Fits (saved_alone e.ring)
  pub legal : IsLegalText (saved_alone e.ring)

-- the bytes are the text of the ring's segment as it is now
abbrev pub IsFileText : FilesView → List ℕ → Type 0
IsFileText d bytes = IsTextAt d.place d.ring bytes

-- the lines of a journal for surveys that seats were given
abbrev pub survey_lines : List Looked → List ℕ
survey_lines ls =
    flat_map (λ (l : Looked). journal_line (line_of_survey 0 l.seat l.survey)) ls

-- the lines of what the journal does not have: a line for each event, and then one for each survey
abbrev pub new_lines : FilesView → List ℕ
new_lines d =
    event_lines 0 (drop d.notes.events d.ring.ring.book.history) ++ survey_lines d.notes.looked

-- from now on a journal is kept, which has all of the segment so far
abbrev pub kept_now : FilesView → FilesView
kept_now d = record d {
  notes = record { kept = true; events = length d.ring.ring.book.history; looked = [] };
}

-- ---- the next file

-- The ring continues in its next segment, whose file comes after one of these bytes. No journal of it
-- is kept.
pub record IsNextFile (old : FilesView) (bytes : List ℕ) (new : FilesView) : Type 0 where
  pub ring : IsNextRing old.ring new.ring
  pub filed : IsFiled new
  pub number : new.place.number ≡ old.place.number + 1
  pub behind : new.place.behind ≡ digest_of bytes
  pub notes : new.notes ≡ no_notes

-- there is none: its numbers, or that of its file, would not have 64 bits
abbrev pub HasNoNext : FilesView → Type 0
HasNoNext d =
    (¬ IsBase (base_after d.ring.base d.ring.ring.book.start d.ring.ring.book.history))
    ⊎ (d.place.number ≡ 2 ^ 64 - 1)

-- a ring in the file at this place, after this base
abbrev pub filed_at : PlaceView → Base → RingView ℕ → FilesView
filed_at p b d = record { ring = record { base = b; ring = d }; place = p; notes = no_notes }

-- the file with these bytes: its head, and the segment of the ring
abbrev pub file_with : FilesView → List ℕ → File
file_with d bytes = record {
  bytes = bytes;
  head = head_at d.place d.ring.base;
  content = saved_alone d.ring.ring;
}
