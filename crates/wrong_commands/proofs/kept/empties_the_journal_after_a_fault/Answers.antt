use Rattle.std.proofs.Common.{Some, refl}
use Rattle.disks.specs.Entries.{held_of}
use Rattle.wrong_commands.proofs.EmptyJournals.{emptied}
use Rattle.wrong_commands.proofs.kept.empties_the_journal_after_a_fault.Goals as goal

pub returns-in-Ok-replace : goal.returns-in-Ok-replace
returns-in-Ok-replace g c = record {
  wrong = λ h.
      let was = held_of c.args.disk.now.entries.items in
      let is = held_of c.replace.new.disk.entries.items in
      let name = c.args.name.now in
      let some = c.requires.some in
      emptied name was is some.0 some.1 (Some was) (Some is) c.args.words.now _ _ _ _ _ _ _ refl refl some.2 (c.in-Ok-replace.ensures.replaced.here name refl) c.requires.named h;
}
