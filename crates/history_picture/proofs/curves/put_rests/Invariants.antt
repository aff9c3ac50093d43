use Rattle.std.proofs.Common.{◌+◌}
use Rattle.std.specs.Io.KnownBytes.{Appends}
use Rattle.saved_history.specs.Content.{block_of}
use Rattle.history_picture.specs.Stretches.{pieces}
use Rattle.history_picture.specs.Picture.{curve_height, ring_shown, point, rest_in}
use Rattle.history_steps.specs.Steps.{HasRing}
use Rattle.history_picture.proofs.curves.put_rests.Given as goal

abbrev pub invariant-loop-column : goal.invariant-loop-column
invariant-loop-column g l = record {
  ring : HasRing l.ring (ring_shown (block_of l.ring) (l.from + l.column)) l.gauge;
  text : Appends (g.W.Write.contents l.initial.out) (g.W.Write.contents l.out) (pieces (λ c. point l.columns (curve_height (block_of l.ring) l.from l.columns) c (rest_in (block_of l.ring) l.from c)) l.column);
}
