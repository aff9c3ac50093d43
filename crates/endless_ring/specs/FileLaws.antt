-- The files of a ring are a chain (this project's own).
use Rattle.std.specs.Prelude.{◌≡◌, ℕ, List}
use Rattle.segment_files.specs.Files.{IsWhole, Follows, link_after}
use Rattle.endless_ring.specs.Files.{FilesView, IsFiled, IsFileText, IsNextFile, file_with}

-- the same segment, whatever was called since
pub record IsSameSegment (old new : FilesView) : Type 0 where
  pub place : new.place ≡ old.place
  pub base : new.ring.base ≡ old.ring.base
  pub start : new.ring.ring.book.start ≡ old.ring.ring.book.start

-- The text of a segment is a file with which a chain may begin, if it says that it is the first only
-- where nothing came before.
abbrev pub FilesAreWhole : Type 0
FilesAreWhole =
    (d : FilesView) (bytes : List ℕ) → IsFiled d → IsFileText d bytes → IsWhole (file_with d bytes)

-- The next segment's text, whatever was called in it, follows the text with which the one before was
-- sealed: their files are a chain.
abbrev pub FilesFollow : Type 0
FilesFollow =
    (d next later : FilesView) (sealed bytes : List ℕ) → IsFiled d → IsFileText d sealed
    → IsNextFile d sealed next → IsSameSegment next later → IsFiled later → IsFileText later bytes
    → Follows (link_after (file_with d sealed)) (file_with later bytes)
