use Rattle.std.proofs.Common.{sym, arith}
use Rattle.repair_picture.proofs.Counts.{past}
use Rattle.repair_picture.proofs.spread.count_of.Goals as goal

pub returns-else-number-counts-clause-is : goal.returns-else-number-counts-clause-is
returns-else-number-counts-clause-is c = sym (past c.args.counts.now c.args.number (omega arith))
