-- A front before a bad line.
use Rattle.std.proofs.Common.{◌≡◌, ℕ, ◌<◌, ◌≤◌, List, length, take, Some, Err}
use Rattle.text_lines.specs.Texts.{line_of}
use Rattle.segment_files.specs.declared.errors.SegmentError.{SegmentError}
use Rattle.segment_files.specs.RemarkLaws.{AreLines}
use Rattle.segment_files.specs.Last.{IsRightLast}
use Rattle.segment_files.specs.Torn.{named_line, IsBadFrom}

pub bad_from : (bytes : List ℕ) (place most : ℕ) (why : SegmentError) → IsRightLast (take most bytes) (Err why) → place < most → most ≤ length bytes → AreLines (take place bytes) → named_line why ≡ Some (line_of bytes place) → IsBadFrom bytes place
bad_from bytes place most why refused longer within begins named = record { most = most; longer = longer; within = within; begins = begins; why = why; named = named; refused = refused }
