use Rattle.std.proofs.Common.{◌-◌, suc, drop}
use Rattle.ring_book.specs.BookHistory.{machines_of}
use Rattle.ring_book.proofs.Pieces.{InTurn}
use Rattle.ring_book.proofs.wholes.are_in_order.Given as goal

abbrev pub invariant-loop-turn : goal.invariant-loop-turn
invariant-loop-turn l = record {
  whole : InTurn (suc l.least) l.high (l.least - l.turn) (drop l.turn (machines_of l.block)) → InTurn (suc l.least) l.n l.least (machines_of l.block);
  rest : InTurn (suc l.least) l.n l.least (machines_of l.block) → InTurn (suc l.least) l.high (l.least - l.turn) (drop l.turn (machines_of l.block));
}
