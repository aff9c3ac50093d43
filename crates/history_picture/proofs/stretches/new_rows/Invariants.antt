use Rattle.std.proofs.Common.{◌≡◌}
use Rattle.std.specs.Prelude.{vec_len}
use Rattle.history_picture.specs.Walks.{AreNew}
use Rattle.history_picture.proofs.stretches.new_rows.Given as goal

abbrev pub invariant-loop-machine : goal.invariant-loop-machine
invariant-loop-machine l = record {
  len : vec_len l.rows ≡ l._machine;
  new : AreNew l.rows.items;
}
