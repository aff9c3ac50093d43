use Rattle.std.proofs.Common.{◌≡◌, ◌+◌, ◌≤◌}
use Rattle.std.specs.Io.KnownBytes.{Appends}
use Rattle.saved_history.specs.Content.{block_of}
use Rattle.history_picture.specs.Stretches.{pieces}
use Rattle.history_picture.specs.Picture.{curve_height, shown, calm_shown, point, calm_in}
use Rattle.history_picture.proofs.curves.put_calms.Given as goal

abbrev pub invariant-loop-column : goal.invariant-loop-column
invariant-loop-column g l = record {
  calm : l.calm ≡ calm_shown (block_of l.ring) (l.from + l.column);
  few : l.calm ≤ shown (block_of l.ring) (l.from + l.column);
  text : Appends (g.W.Write.contents l.initial.out) (g.W.Write.contents l.out) (pieces (λ c. point l.columns (curve_height (block_of l.ring) l.from l.columns) c (calm_in (block_of l.ring) l.from c)) l.column);
}
