use Rattle.std.proofs.Common.{◌<◌, length, arith}
use Rattle.held_locks.specs.Holding.{chain_count}
use Rattle.held_locks.proofs.Chaining.{same_chained, end_added}
use Rattle.held_locks.proofs.chains.add_ends.Goals as goal

pub returns-in_default-clause-chained : goal.returns-in_default-clause-chained
returns-in_default-clause-chained c = λ clients a.
    same_chained chain_count c.loop-next.next.items c.loop-next.previous.items c.add_link.new.next.items c.add_link.new.previous.items clients c.in_default.ensures.err.0 c.in_default.ensures.err.1 (c.loop-next.invariant clients a)

pub loop-next-preserved : goal.loop-next-preserved
loop-next-preserved c = λ clients a.
    let less : length c.loop-next.next.items < chain_count = let n = c.len.ensures in let k = c.loop-next.next.ok.0 in let t = c.loop-next-test.true in omega arith in
    end_added chain_count c.loop-next.next.items c.loop-next.previous.items c.add_link.new.next.items c.add_link.new.previous.items clients c.in-Ok.ensures.ok.0 c.in-Ok.ensures.ok.1 (c.loop-next.invariant clients a) less
