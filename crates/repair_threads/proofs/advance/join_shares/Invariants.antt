use Rattle.std.proofs.Common.{◌≡◌, ◌+◌}
use Rattle.ring_repairs.specs.Studies.{AreRepairs}
use Rattle.repair_threads.specs.Shares.{before}
use Rattle.repair_threads.proofs.advance.join_shares.Given as goal

abbrev pub invariant-loop-place : goal.invariant-loop-place
invariant-loop-place l = record {
  study : l.repairs.study ≡ l.initial.repairs.study;
  done : l.repairs.done ≡ l.split.first + before l.split.trials l.split.parts l.place;
  counted : AreRepairs l.repairs;
}
