use Rattle.std.proofs.Common.{◌+◌}
use Rattle.std.specs.Io.KnownBytes.{Appends}
use Rattle.saved_history.specs.Content.{block_of}
use Rattle.history_picture.specs.Stretches.{pieces}
use Rattle.history_picture.specs.Picture.{mark_in}
use Rattle.history_picture.proofs.marks.put_marks.Given as goal

abbrev pub invariant-loop-column : goal.invariant-loop-column
invariant-loop-column g l = record {
  text : Appends (g.W.Write.contents l.initial.out) (g.W.Write.contents l.out) (pieces (mark_in (block_of l.ring) l.corruptions l.from (l.count + 1)) l.column);
}
