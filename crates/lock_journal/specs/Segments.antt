-- The text of a segment of locks (this project's own).
use Rattle.std.specs.Prelude.{ℕ, List, map}
use Rattle.std.specs.List.{AllByRecursion}
use Rattle.saved_history.specs.Content.{Content}
use Rattle.saved_history.specs.Spelling.{BlockFits, Fits}
use Rattle.saved_history.specs.Versions.{latest_version}
use Rattle.segment_files.specs.Spelling.{HeadFits}
use Rattle.endless_ring.specs.Endless.{EndlessView}
use Rattle.ring_service.specs.Standings.{Standing, standing_of}
use Rattle.ring_service.specs.Segments.{bases_of}
use Rattle.held_locks.specs.Kept.{LockView}
use Rattle.ring_service.specs.Saved as saved
use Rattle.ring_service.specs.Texts as texts

-- the rings of the locks, as rings that are served
abbrev pub ring_of : LockView → EndlessView
ring_of v = v.ring

abbrev pub rings_of : List LockView → List Standing
rings_of locks = map standing_of (map ring_of locks)

-- the saved text of these rings, with which a journal of the locks begins
abbrev pub content_of : List LockView → Content
content_of locks = saved.content_of (rings_of locks)

-- the text with which the file of the segment of this number begins, after a file of this digest
abbrev pub segment_text : ℕ → List ℕ → List LockView → List ℕ
segment_text number behind locks = texts.segment_text number behind (rings_of locks)

-- the block of each ring fits in a saved text
abbrev pub BlocksFit : List LockView → Type 0
BlocksFit locks = AllByRecursion (BlockFits latest_version) (saved.blocks_from 0 (rings_of locks))

-- there is such a text: the head fits in it, and so do the rings
pub record HasText (number : ℕ) (behind : List ℕ) (locks : List LockView) : Type 0 where
  pub head : HeadFits (record {
    number = number;
    behind = behind;
    bases = bases_of (rings_of locks);
  })
  pub rings : Fits (content_of locks)
