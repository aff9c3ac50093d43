use Rattle.saved_history.specs.Content.{block_of}
use Rattle.history_steps.specs.Steps.{ring_at}
use Rattle.history_steps.specs.Steps.{HasRing}
use Rattle.history_picture.proofs.columns.go_on.Given as goal

abbrev pub invariant-loop-i : goal.invariant-loop-i
invariant-loop-i l = HasRing l.ring (ring_at (block_of l.ring) l.i) l.gauge
