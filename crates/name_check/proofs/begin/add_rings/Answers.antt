use Rattle.std.proofs.Common.{◌<◌, ◌≤◌, ◌-◌, ◌++◌, length, ◌∙◌, arith}
use Rattle.name_check.specs.Entries.{fresh_rings}
use Rattle.name_check.proofs.Starting.{rings_more, rings_done}
use Rattle.name_check.proofs.begin.add_rings.Goals as goal

pub loop-fresh-preserved : goal.loop-fresh-preserved
loop-fresh-preserved c =
    let lt : length c.loop-fresh.rings.items < c.args.count = let n = c.len.ensures in let t = c.loop-fresh-test.true in omega arith in
    rings_more c.loop-fresh.rings.items c.push.new.self.items c.args.count c.in-Ok.ensures.items lt ∙ c.loop-fresh.invariant

pub returns : goal.returns
returns c =
    let le : c.args.count ≤ length c.loop-fresh.rings.items = let n = c.len.ensures in let t = c.loop-fresh-test.false in omega arith in
    rings_done c.loop-fresh.rings.items (c.args.rings.now.items ++ fresh_rings (c.args.count - length c.args.rings.now.items)) c.args.count c.loop-fresh.invariant le
