use Rattle.std.proofs.Common.{◌≡◌, ◌≤◌}
use Rattle.saved_history.specs.Content.{block_of}
use Rattle.history_picture.specs.Picture.{shown, calm_shown}
use Rattle.history_picture.proofs.columns.calm_to.Given as goal

abbrev pub invariant-loop-i : goal.invariant-loop-i
invariant-loop-i l = record {
  calm : l.calm ≡ calm_shown (block_of l.ring) l.i;
  few : l.calm ≤ shown (block_of l.ring) l.i;
}
