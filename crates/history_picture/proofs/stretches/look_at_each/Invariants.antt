use Rattle.std.proofs.Common.{◌≡◌, ◌<◌, ◌≤◌, ℕ, get_or}
use Rattle.std.specs.Prelude.{vec_len}
use Rattle.ring_model.specs.Ring.{is_privileged}
use Rattle.history_picture.specs.declared.stretches.Row.{Row}
use Rattle.history_picture.specs.Walks.{IsLooked}
use Rattle.history_picture.proofs.stretches.look_at_each.Given as goal

abbrev pub invariant-loop-machine : goal.invariant-loop-machine
invariant-loop-machine l = record {
  len : vec_len l.rows ≡ vec_len l.initial.rows;
  looked : (i : ℕ) (d : Row) → i < l.machine → IsLooked l.column (is_privileged l.values i) (get_or l.initial.rows.items i d) (get_or l.rows.items i d);
  left : (i : ℕ) (d : Row) → l.machine ≤ i → get_or l.rows.items i d ≡ get_or l.initial.rows.items i d;
}
