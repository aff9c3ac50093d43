use Rattle.std.proofs.Common.{◌≡◌, ◌+◌}
use Rattle.saved_history.specs.Content.{block_of}
use Rattle.history_picture.specs.Picture.{ring_shown, highest_rest}
use Rattle.history_steps.specs.Steps.{HasRing}
use Rattle.history_picture.proofs.curves.highest_rest.Given as goal

abbrev pub invariant-loop-column : goal.invariant-loop-column
invariant-loop-column l = record {
  ring : HasRing l.ring (ring_shown (block_of l.ring) (l.from + l.column)) l.gauge;
  highest : l.highest ≡ highest_rest (block_of l.ring) l.from l.column;
}
