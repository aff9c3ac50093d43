use Rattle.std.proofs.Common.{◌≡◌, ◌≤◌, ◌-◌, ◌++◌, take, drop}
use Rattle.folder_of_locks.specs.NameRings.{free_lines}
use Rattle.folder_of_locks.proofs.missing_lines.put_frees.Given as goal

abbrev pub invariant-loop-ring : goal.invariant-loop-ring
invariant-loop-ring l = record {
  low : l.fixed ≤ l.ring;
  text : l.text.items ≡ l.fn.text.items ++ free_lines l.fixed l.recorded.rings (take (l.ring - l.fixed) (drop l.fixed l.locks));
}
