use Rattle.std.proofs.Common.{arith}
use Rattle.wrong_commands.proofs.Gapped.{other_first}
use Rattle.wrong_commands.proofs.folders.skips_the_first_file.Goals as goal

pub returns-in-Ok : goal.returns-in-Ok
returns-in-Ok g c =
    let x = c.in-Ok.ensures.ok in
    record { wrong = λ a. other_first (g.D.Disk.holds c.args.disk.now) c.args.folder.now c.args.numbers _ c.in-Ok.found.0 x.0 a.0 (omega arith) x.1 x.2 a.1 a.2 }
