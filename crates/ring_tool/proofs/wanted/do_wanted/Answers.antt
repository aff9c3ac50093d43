use Rattle.std.proofs.Common.{ap, ◌≡◌, ◌≢◌}
use Rattle.std.specs.Io.Buffered.{writer_contents}
use Rattle.tool_parts.specs.Worlds.{world}
use Rattle.tool_parts.specs.declared.faults.ToolError.{ToolError}
use Rattle.tool_parts.specs.declared.faults.ToolError.TheVariants as tool
use Rattle.ring_tool.specs.Wanted.{IsDoing, IsRefusing}
use Rattle.ring_tool.proofs.Endings.{of_ok, of_err, ended_answered, ended_refused}
use Rattle.ring_tool.proofs.wanted.do_wanted.Goals as goal

pub returns-in-Ok-clause-ended : goal.returns-in-Ok-clause-ended
returns-in-Ok-clause-ended g c =
    let was = world (g.D.Disk.holds c.args.disk.now) (g.I.Read.remaining c.args.input.now) (writer_contents g.O.Write.contents c.args.out) (g.E.Write.contents c.args.err.now) in
    ended_answered c.args.wanted.now was c.done.result.status c.done.result.told (g.D.Disk.holds c.do_it.new.disk) (g.I.Read.remaining c.do_it.new.input) (writer_contents g.O.Write.contents c.do_it.new.out)
    (g.O.Write.contents c.done.result.out) (g.E.Write.contents c.do_it.new.err) (g.E.Write.contents c.done.new.err)
    (of_ok (IsDoing c.args.wanted.now was (world (g.D.Disk.holds c.do_it.new.disk) (g.I.Read.remaining c.do_it.new.input) (writer_contents g.O.Write.contents c.do_it.new.out) (g.E.Write.contents c.do_it.new.err)))
    c.do_it.result c.in-Ok.field-0 c.in-Ok.is c.do_it.ensures.answered)
    (λ q. ap g.E.Write.contents (c.do_it.ensures.silent q))
    (λ q. ap g.I.Read.remaining (c.do_it.ensures.unread q))
    c.do_it.ensures.made
    c.done.ensures.status c.done.ensures.ended

pub returns-in-Err-clause-ended : goal.returns-in-Err-clause-ended
returns-in-Err-clause-ended g c =
    let was = world (g.D.Disk.holds c.args.disk.now) (g.I.Read.remaining c.args.input.now) (writer_contents g.O.Write.contents c.args.out) (g.E.Write.contents c.args.err.now) in
    ended_refused c.args.wanted.now was c.in-Err.fault c.fail.result.status c.fail.result.told (g.D.Disk.holds c.do_it.new.disk) (g.I.Read.remaining c.do_it.new.input) (writer_contents g.O.Write.contents c.do_it.new.out)
    (g.O.Write.contents c.fail.result.out) (g.E.Write.contents c.do_it.new.err) (g.E.Write.contents c.fail.new.err)
    c.fail.ensures.status
    (of_err (λ (e : ToolError). IsRefusing c.args.wanted.now was (world (g.D.Disk.holds c.do_it.new.disk) (g.I.Read.remaining c.do_it.new.input) (writer_contents g.O.Write.contents c.do_it.new.out) (g.E.Write.contents c.do_it.new.err)) e)
    c.do_it.result c.in-Err.fault c.in-Err.is c.do_it.ensures.refused)
    (λ q. ap g.E.Write.contents (c.do_it.ensures.silent q))
    (λ q. ap g.I.Read.remaining (c.do_it.ensures.unread q))
    c.do_it.ensures.made
    (λ other. of_err (λ (e : ToolError). e ≢ tool.Write → g.D.Disk.holds c.do_it.new.disk ≡ g.D.Disk.holds c.args.disk.now) c.do_it.result c.in-Err.fault c.in-Err.is (c.do_it.ensures.kept other))
    c.fail.ensures.front c.fail.ensures.told
