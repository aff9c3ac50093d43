use Rattle.std.proofs.Common.{◌+◌, ◌<◌, length, drop, rules}
use Rattle.lock_names.proofs.Found.{there_is}
use Rattle.lock_journal.proofs.StateLines.{lines_more, count_more}
use Rattle.name_service.specs.State.{waits_of_ring, name_waits}
use Rattle.name_service.proofs.NamedStates.{name_there, waits_there}
use Rattle.name_service.proofs.stating.put_waits.Goals as goal

pub loop-ring-preserved : goal.loop-ring-preserved
loop-ring-preserved c =
    let l = c.loop-ring in
    let v = c.args.names.now in
    let below : l.ring < length v.locks = search rules in
    let o = name_there v c.requires.kept l.ring below in
    let k = there_is v.locks l.ring below in
    let part = waits_of_ring o.0 k.0 in
    let rest = name_waits (drop (l.ring + 1) v.names) (drop (l.ring + 1) v.locks) in
    let all = waits_there v.names v.locks l.ring o.0 k.0 o.1 k.1 in (
      lines_more l.text.items c.put_waiting.new.text.items _ part rest _ all l.invariant.0 (c.in-Ok.ensures.lines o.0 k.0 o.1 k.1),
      count_more l.count c.in-Ok.with _ part rest _ all l.invariant.1 (c.in-Ok.ensures.count o.0 k.0 o.1 k.1),
      c.in-Ok.ensures.few,
    )
