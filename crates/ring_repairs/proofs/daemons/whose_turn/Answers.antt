use Rattle.std.proofs.Common.{sym, arith}
use Rattle.std.proofs.Math.Nat.{mod-eq_of_lt}
use Rattle.ring_repairs.proofs.daemons.whose_turn.Goals as goal

pub returns-then-asked-n : goal.returns-then-asked-n
returns-then-asked-n c = sym (mod-eq_of_lt {n = c.args.asked} {m = c.args.n} (omega arith))
