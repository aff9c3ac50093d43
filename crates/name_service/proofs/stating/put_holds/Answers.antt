use Rattle.std.proofs.Common.{◌+◌, ◌<◌, length, drop, rules, arith}
use Rattle.lock_names.proofs.Found.{there_is}
use Rattle.lock_journal.proofs.StateLines.{lines_more, count_more}
use Rattle.name_service.specs.State.{hold_of_ring, name_holds}
use Rattle.name_service.proofs.NamedStates.{name_there, holds_there}
use Rattle.name_service.proofs.stating.put_holds.Goals as goal

pub loop-ring-preserved : goal.loop-ring-preserved
loop-ring-preserved c =
    let l = c.loop-ring in
    let v = c.args.names.now in
    let below : l.ring < length v.locks = search rules in
    let o = name_there v c.requires l.ring below in
    let k = there_is v.locks l.ring below in
    let part = hold_of_ring o.0 k.0 in
    let rest = name_holds (drop (l.ring + 1) v.names) (drop (l.ring + 1) v.locks) in
    let all = holds_there v.names v.locks l.ring o.0 k.0 o.1 k.1 in
    let few = c.in-Ok.ensures.few in
    let so_far = l.invariant.2 in
    let count = c.in-Ok.ensures.count o.0 k.0 o.1 k.1 in (
      lines_more l.text.items c.put_hold.new.text.items _ part rest _ all l.invariant.0 (c.in-Ok.ensures.lines o.0 k.0 o.1 k.1),
      count_more l.count (l.count + c.in-Ok.more) _ part rest _ all l.invariant.1 (omega (arith, count)),
      omega (arith, few, so_far),
    )
