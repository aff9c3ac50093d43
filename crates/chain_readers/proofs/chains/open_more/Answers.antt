use Rattle.std.proofs.Common.{◌∙◌, sym, arith}
use Rattle.ring_model.specs.Bases.{no_base}
use Rattle.chain_readers.proofs.Parts.{opened_more, opened_all}
use Rattle.chain_readers.proofs.chains.open_more.Goals as goal

pub loop-i-preserved : goal.loop-i-preserved
loop-i-preserved c =
    let l = c.loop-i in
    let lt = c.loop-i-test.true in
    let least = c.min-count.ensures in
    opened_more l.locks.items c.args.bases.now c.args.rings.now l.i c.push.new.self.items c.start.result c.index-rings-i.result no_base (omega (arith, lt, least)) (omega (arith, lt, least)) c.index-rings-i.is c.start.ensures c.in_ok-push.ensures.items
    ∙ l.invariant

pub returns : goal.returns
returns c =
    let l = c.loop-i in
    let end = c.loop-i-test.false in
    let least = c.min-count.ensures in
    sym (opened_all l.locks.items c.args.bases.now c.args.rings.now l.i (omega (arith, end, least))) ∙ l.invariant
