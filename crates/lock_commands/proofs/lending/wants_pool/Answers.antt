use Rattle.std.proofs.Common.{sym, subst}
use Rattle.lock_commands.specs.declared.lending.Unknown.{Unknown}
use Rattle.lock_commands.specs.Lending.{IsUnknown}
use Rattle.lock_commands.proofs.Lent.{unknown_why}
use Rattle.lock_commands.proofs.lending.wants_pool.Goals as goal

pub returns-in-Err-clause-err : goal.returns-in-Err-clause-err
returns-in-Err-clause-err g c =
    subst (λ (u : Unknown). IsUnknown c.args.words.now (g.D.Disk.holds c.args.disk.now) u) (sym c.unknown_of.ensures)
    (unknown_why c.args.words.now (g.D.Disk.holds c.args.disk.now) c.in-Err.why c.in-Err.ensures.err)
