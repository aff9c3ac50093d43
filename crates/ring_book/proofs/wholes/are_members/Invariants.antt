use Rattle.std.proofs.Common.{drop}
use Rattle.ring_model.specs.Groups.{AreMembers}
use Rattle.ring_book.specs.BookHistory.{machines_of}
use Rattle.ring_book.proofs.wholes.are_members.Given as goal

abbrev pub invariant-loop-place : goal.invariant-loop-place
invariant-loop-place l = record {
  whole : AreMembers l.seat l.order (machines_of (drop l.place l.block)) (drop l.place l.block) → AreMembers l.seat l.order (machines_of l.block) l.block;
  rest : AreMembers l.seat l.order (machines_of l.block) l.block → AreMembers l.seat l.order (machines_of (drop l.place l.block)) (drop l.place l.block);
}
