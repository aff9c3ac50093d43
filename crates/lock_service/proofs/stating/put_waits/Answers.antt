use Rattle.std.proofs.Common.{◌+◌, ◌<◌, length, drop, rules}
use Rattle.held_locks.proofs.AllLeft.{there_is}
use Rattle.lock_journal.specs.State.{wait_lines, waits_from}
use Rattle.lock_journal.proofs.StateLines.{lines_more, count_more, waits_there}
use Rattle.lock_service.proofs.stating.put_waits.Goals as goal

pub loop-lock-preserved : goal.loop-lock-preserved
loop-lock-preserved c =
    let l = c.loop-lock in
    let below : l.lock < length c.args.locks.now = search rules in
    let v = there_is c.args.locks.now l.lock below in
    let names = c.args.names.now in
    let name = c.name.result.now in
    let part = wait_lines name v.0.queue in
    let rest = waits_from names (l.lock + 1) (drop (l.lock + 1) c.args.locks.now) in
    let all = waits_there names c.args.locks.now l.lock name v.0 c.name.ensures v.1 in (
      lines_more l.text.items c.put_counted.new.text.items _ part rest _ all l.invariant.0 (c.in-Ok.ensures.lines v.0 v.1),
      count_more l.count c.in-Ok.with _ part rest _ all l.invariant.1 (c.in-Ok.ensures.count v.0 v.1),
      c.in-Ok.ensures.few,
    )
