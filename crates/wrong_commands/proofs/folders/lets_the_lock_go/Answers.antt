use Rattle.wrong_commands.proofs.Unlocked.{is_unlocked}
use Rattle.wrong_commands.proofs.folders.lets_the_lock_go.Goals as goal

pub returns-in-Ok-hold_journal : goal.returns-in-Ok-hold_journal
returns-in-Ok-hold_journal g c = record {
  wrong = λ l.
      is_unlocked (g.D.Disk.holds c.args.disk.now) (g.D.Disk.holds c.create.new.self) (g.D.Disk.holds c.hold_journal.new.disk) c.args.name.now c.args._folder.now c.in-Ok._made c.requires.named c.requires.known c.requires.free c.in-Ok.ensures.created c.hold_journal.ensures.kept l;
}
