use Rattle.std.proofs.Common.{◌∙◌}
use Rattle.chain_readers.proofs.Extending.{opened_more}
use Rattle.chain_readers.proofs.rings.open_more.Goals as goal

pub loop-i-preserved : goal.loop-i-preserved
loop-i-preserved c =
    opened_more c.loop-i.rings.items c.args.next.now c.loop-i.i c.push.new.self.items c.in_ok-begin.field-0 c.index-next-i.result c.loop-i-test.true c.index-next-i.is c.in_ok-begin.ensures c.in_ok-push.ensures.items
    ∙ c.loop-i.invariant
