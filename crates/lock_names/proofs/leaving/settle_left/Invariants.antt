use Rattle.std.proofs.Common.{◌≡◌, ℕ, ◌≤◌, map, take, length, vec_capacity}
use Rattle.std.specs.Prelude.{slice_get}
use Rattle.lock_names.specs.Leaves.{told_left, names_left, grants_in}
use Rattle.lock_names.proofs.leaving.settle_left.Given as goal

abbrev pub invariant-loop-i : goal.invariant-loop-i
invariant-loop-i l = record {
  many : length l.left.items ≡ length l.fn.left.items;
  told : take l.i l.left.items ≡ map (told_left l.fn.table) (take l.i l.fn.left.items);
  rest : (j : ℕ) → l.i ≤ j → slice_get l.left.items j ≡ slice_get l.fn.left.items j;
  names : l.table ≡ names_left l.fixed l.fn.table (take l.i l.fn.left.items);
  grants : l.grants ≡ grants_in (take l.i l.fn.left.items);
  capacity : vec_capacity l.left ≡ vec_capacity l.fn.left;
}
