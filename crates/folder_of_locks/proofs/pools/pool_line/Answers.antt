use Rattle.std.proofs.Common.{rules}
use Rattle.folder_of_locks.proofs.Pieces.{filled}
use Rattle.folder_of_locks.proofs.Stars.{more_lines}
use Rattle.folder_of_locks.proofs.pools.pool_line.Goals as goal

pub returns-then-not-is_empty : goal.returns-then-not-is_empty
returns-then-not-is_empty c = more_lines c.args.after.now c.cut.result.0.now c.in-Some.rest.now (rw c.in-Some.is at c.cut.ensures) (filled c.in-Some.rest.now (search rules))
