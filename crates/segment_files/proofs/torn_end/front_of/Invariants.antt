use Rattle.std.proofs.Common.{◌≤◌, length, take, Err}
use Rattle.segment_files.specs.Last.{IsRightLast}
use Rattle.segment_files.proofs.torn_end.front_of.Given as goal

abbrev pub invariant-cuts : goal.invariant-cuts
invariant-cuts l = record {
  within : l.kept ≤ length l.bytes;
  refused : IsRightLast (take l.kept l.bytes) (Err l.error);
}

abbrev pub decreases-cuts : goal.decreases-cuts
decreases-cuts l = l.kept
