use Rattle.std.proofs.Common.{◌<◌, ◌≤◌, ◌-◌, ◌++◌, length, ◌∙◌, arith}
use Rattle.name_bindings.specs.Bindings.{frees}
use Rattle.name_bindings.proofs.FixedNames.{pool_more, pool_done}
use Rattle.name_check.proofs.begin.add_pool.Goals as goal

pub loop-table-preserved : goal.loop-table-preserved
loop-table-preserved c =
    let lt : length c.loop-table.table < c.args.count = let n = c.count.ensures in let t = c.loop-table-test.true in omega arith in
    let more = pool_more c.loop-table.table c.add_free.new.self c.args.count c.in-Ok.ensures.ok lt in
    more.0 ∙ c.loop-table.invariant

pub returns : goal.returns
returns c =
    let le : c.args.count ≤ length c.loop-table.table = let n = c.count.ensures in let t = c.loop-table-test.false in omega arith in
    pool_done c.loop-table.table (c.args.table.now ++ frees (c.args.count - length c.args.table.now)) c.args.count c.loop-table.invariant le
