use Rattle.std.proofs.Common.{rules}
use Rattle.folder_of_locks.proofs.Pieces.{empty}
use Rattle.folder_of_locks.proofs.PoolSizes.{marked}
use Rattle.folder_of_locks.proofs.pools.read_pool_size.Goals as goal

pub returns : goal.returns
returns c =
    marked c.args.mark c.args.text.now c.cut.result.0.now c.in-Some.after.now c.read_size.result (rw c.in-Some.is at c.cut.ensures) (empty c.cut.result.0.now (search rules)) c.read_size.ensures
