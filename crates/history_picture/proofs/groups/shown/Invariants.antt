use Rattle.std.proofs.Common.{◌≡◌, ◌-◌}
use Rattle.saved_history.specs.Content.{block_of}
use Rattle.history_picture.specs.Picture.{shown}
use Rattle.history_picture.proofs.groups.shown.Given as goal

abbrev pub invariant-loop-turn : goal.invariant-loop-turn
invariant-loop-turn l = record {
  same : shown (block_of l.ring) (l.place - l.turn) ≡ shown (block_of l.ring) l.place;
}
