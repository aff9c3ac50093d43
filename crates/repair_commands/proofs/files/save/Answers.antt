use Rattle.repair_commands.proofs.Filing.{nothing_stored, table_stored}
use Rattle.repair_commands.proofs.files.save.Goals as goal

pub returns-in-Nothing-clause-stored : goal.returns-in-Nothing-clause-stored
returns-in-Nothing-clause-stored g c = rw c.in-Nothing.is (nothing_stored c.args.rows.now c.args.counts.now (g.D.Disk.holds c.args.disk.now))

pub returns-in-Ok-clause-stored : goal.returns-in-Ok-clause-stored
returns-in-Ok-clause-stored g c =
    rw c.in-Table.is
    (table_stored c.in-Table.name c.args.rows.now c.args.counts.now (g.D.Disk.holds c.args.disk.now) (g.D.Disk.holds c.save_table.new.disk) c.in-Ok.ensures.stored)
