use Rattle.std.proofs.Common.{None}
use Rattle.tool_parts.specs.Worlds.{world}
use Rattle.text_commands.proofs.JudgedFiles.{unchecked_of}
use Rattle.text_commands.proofs.check.run.Goals as goal

pub returns-clause-err : goal.returns-clause-err
returns-clause-err g c =
    unchecked_of c.args.words.now (world (g.D.Disk.holds c.args.disk.now) (g.I.Read.remaining c.args.input.now) (g.W.Write.contents c.args.out.now) None) (world (g.D.Disk.holds c.args.disk.now) (g.I.Read.remaining c.args.input.now) (g.W.Write.contents c.check_named.new.out) None) c.in-Err.fault c.in-Some.ensures.0 c.in-Err.ensures.err
