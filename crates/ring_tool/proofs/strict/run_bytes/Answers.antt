use Rattle.std.proofs.Common.{None}
use Rattle.std.specs.Io.Buffered.{writer_contents}
use Rattle.tool_parts.specs.Worlds.{world}
use Rattle.ring_tool.proofs.StrictEndings.{ended_over}
use Rattle.ring_tool.proofs.strict.run_bytes.Goals as goal

pub returns-clause-ended : goal.returns-clause-ended
returns-clause-ended g c =
    let was = world (g.D.Disk.holds c.args.disk.now) None (writer_contents g.O.Write.contents c.args.out) (g.E.Write.contents c.args.err.now) in
    let is = world (g.D.Disk.holds c.do_wanted.new.disk) None (g.O.Write.contents c.do_wanted.result.out) (g.E.Write.contents c.do_wanted.new.err) in
    ended_over c.args.words.now c.args.bytes.now c.wanted_over-wanted.result c.do_wanted.result.status c.do_wanted.result.told _ was is c.wanted_over-wanted.ensures
    c.do_wanted.ensures.ended
