use Rattle.std.proofs.Common.{◌∙◌, sym, ap, arith}
use Rattle.saved_history.specs.Content.{block_of}
use Rattle.chain_readers.proofs.Extending.{block_at}
use Rattle.chain_readers.proofs.joined_lines.overfull.Goals as goal

pub returns-then-len-gt-EVENT_LIMIT : goal.returns-then-len-gt-EVENT_LIMIT
returns-then-len-gt-EVENT_LIMIT c =
    let long = c.if-len-gt-EVENT_LIMIT.true in
    (block_of c.index-rings-i.result, block_at c.args.rings.now c.loop-i.i c.index-rings-i.result c.loop-i-test.true c.index-rings-i.is, λ short. absurd (omega (arith, short, long, c.len.ensures, c.index-rings-i.result.events.ok.0)))
