use Rattle.std.proofs.Common.{sym, ap, ◌∙◌, subst, List}
use Rattle.disks.specs.Held.{Nothing, IsRemoved, file_bytes, is_a_folder}
use Rattle.disks.specs.Entries.{found, held_of}
use Rattle.disks.specs.declared.memory.StoredEntry.{StoredEntry}
use Rattle.disks.proofs.Finding.{removed}
use Rattle.disks.proofs.memory.MemoryDiskDisk.discard.Goals as goal

pub returns-clause-discarded : goal.returns-clause-discarded
returns-clause-discarded c =
    let empty = ap (λ (es : List StoredEntry). found Nothing es c.args.name.now) (sym c.deref.ensures.value) ∙ c.is_empty_file.ensures.yes c.if-not-is_empty_file.false in (
      ap file_bytes empty,
      subst (λ (xs : List StoredEntry). IsRemoved (held_of c.args.self.now.entries.items) (held_of xs) c.args.name.now) (sym c.remove_entries.ensures)
          (removed c.args.self.now.entries.items c.args.name.now (ap is_a_folder empty)),
    )
