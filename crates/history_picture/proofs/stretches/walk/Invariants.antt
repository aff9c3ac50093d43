use Rattle.std.proofs.Common.{◌≡◌, ◌+◌}
use Rattle.std.specs.Prelude.{vec_len}
use Rattle.saved_history.specs.Content.{block_of}
use Rattle.history_picture.specs.Picture.{ring_shown}
use Rattle.history_steps.specs.Steps.{HasRing}
use Rattle.history_picture.specs.Walks.{AreRows}
use Rattle.history_picture.proofs.stretches.walk.Given as goal

abbrev pub invariant-loop-column : goal.invariant-loop-column
invariant-loop-column l = record {
  ring : HasRing l.ring (ring_shown (block_of l.ring) (l.from + l.column)) l.gauge;
  len : vec_len l.rows ≡ l.ring.n;
  rows : AreRows (block_of l.ring) l.from l.column l.rows.items;
}
