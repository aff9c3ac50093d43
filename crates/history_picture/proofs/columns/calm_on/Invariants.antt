use Rattle.std.proofs.Common.{◌≡◌, ◌≤◌}
use Rattle.saved_history.specs.Content.{block_of}
use Rattle.history_steps.specs.Steps.{calm_at}
use Rattle.history_picture.proofs.columns.calm_on.Given as goal

abbrev pub invariant-loop-i : goal.invariant-loop-i
invariant-loop-i l = record {
  calm : l.after ≡ calm_at (block_of l.ring) l.i;
  few : l.after ≤ l.i;
}
