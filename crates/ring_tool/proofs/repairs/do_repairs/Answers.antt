use Rattle.std.proofs.Common.{◌∙◌, None}
use Rattle.std.specs.Io.Buffered.{writer_contents}
use Rattle.tool_parts.specs.Worlds.{world}
use Rattle.repair_commands.specs.Repaired.{IsRepairsAnswer, IsRepairsRefusal}
use Rattle.repair_requests.specs.declared.refusals.Refusal.{Refusal}
use Rattle.ring_tool.proofs.Endings.{of_ok, of_err}
use Rattle.ring_tool.proofs.RepairEndings.{ended_repaired, ended_unrepaired}
use Rattle.ring_tool.proofs.repairs.do_repairs.Goals as goal

pub returns-in-Ok : goal.returns-in-Ok
returns-in-Ok g c =
    let was = world (g.D.Disk.holds c.args.disk.now) None (writer_contents g.O.Write.contents c.args.out) None in
    let is = world (g.D.Disk.holds c.run.new.disk) None (writer_contents g.O.Write.contents c.run.new.out) None in
    ended_repaired c.args.words.now c.done.result.status c.done.result.told (g.D.Disk.holds c.args.disk.now) (g.D.Disk.holds c.run.new.disk)
    (writer_contents g.O.Write.contents c.args.out) (writer_contents g.O.Write.contents c.run.new.out) (g.O.Write.contents c.done.result.out) (g.E.Write.contents c.args.err.now) (g.E.Write.contents c.done.new.err)
    (of_ok (IsRepairsAnswer c.args.words.now was is) c.run.result c.in-Ok.field-0 c.in-Ok.is c.run.ensures.ok)
    c.done.ensures.status c.done.ensures.ended

pub returns-in-Err : goal.returns-in-Err
returns-in-Err g c =
    let was = world (g.D.Disk.holds c.args.disk.now) None (writer_contents g.O.Write.contents c.args.out) None in
    let is = world (g.D.Disk.holds c.run.new.disk) None (writer_contents g.O.Write.contents c.run.new.out) None in
    ended_unrepaired c.args.words.now c.in-Err.refusal c.fail_with.result.status c.fail_with.result.told (g.D.Disk.holds c.args.disk.now) (g.D.Disk.holds c.run.new.disk)
    (writer_contents g.O.Write.contents c.args.out) (writer_contents g.O.Write.contents c.run.new.out) (g.O.Write.contents c.fail_with.result.out) (g.E.Write.contents c.args.err.now) (g.E.Write.contents c.fail_with.new.err)
    (c.fail_with.ensures.status ∙ c.status.ensures)
    (of_err (λ (e : Refusal). IsRepairsRefusal c.args.words.now was is e) c.run.result c.in-Err.refusal c.in-Err.is c.run.ensures.err)
    c.fail_with.ensures.front c.fail_with.ensures.told
