-- The file that a chain ends with, as it is opened to resume from it (this project's own).
use Rattle.std.specs.Prelude.{ℕ, true, List, None, Result, Ok, Err}
use Rattle.saved_history.specs.Content.{content}
use Rattle.segment_files.specs.declared.last.LastSegment.{LastSegment}
use Rattle.segment_files.specs.declared.errors.SegmentError.{SegmentError}
use Rattle.segment_files.specs.Spelling.{head_of}
use Rattle.segment_files.specs.Files.{File, opening_link, Follows}
use Rattle.segment_files.specs.Chain.{IsRightRefusal}

-- the file with these bytes, as it was read
abbrev pub last_file : List ℕ → LastSegment → File
last_file bytes s = record { bytes = bytes; head = head_of s.head; content = content s.saved }

-- The right answer: a file with which a chain may begin and end, what it says of those before it
-- taken on trust; or the right refusal of it.
abbrev pub IsRightLast : List ℕ → Result LastSegment SegmentError → Type 0
IsRightLast bytes (Ok s) = Follows (opening_link (last_file bytes s)) (last_file bytes s)
IsRightLast bytes (Err e) = IsRightRefusal None bytes true e
