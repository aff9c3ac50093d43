use Rattle.std.proofs.Common.{◌+◌, ◌<◌, length, drop, rules, arith}
use Rattle.lock_journal.specs.State.{hold_lines, holds_from}
use Rattle.lock_journal.proofs.StateLines.{lines_more, count_more, holds_there}
use Rattle.lock_service.proofs.stating.put_holds.Goals as goal

pub loop-lock-preserved : goal.loop-lock-preserved
loop-lock-preserved c =
    let l = c.loop-lock in
    let names = c.args.names.now in
    let name = c.name.result.now in
    let below : l.lock < length c.args.locks.now = search rules in
    let part = hold_lines name c.holder.result in
    let rest = holds_from names (l.lock + 1) (drop (l.lock + 1) c.args.locks.now) in
    let all = holds_there names c.args.locks.now l.lock name c.holder.result below c.name.ensures c.holder.ensures in
    let few = c.in-Ok.ensures.few in
    let so_far = l.invariant.2 in
    let count = c.in-Ok.ensures.count in (
      lines_more l.text.items c.put_hold_if.new.text.items _ part rest _ all l.invariant.0 c.in-Ok.ensures.lines,
      count_more l.count (l.count + c.in-Ok.more) _ part rest _ all l.invariant.1 (omega (arith, count)),
      omega (arith, few, so_far),
    )
