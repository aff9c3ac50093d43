use Rattle.std.proofs.Common.{◌<◌, ◌∙◌, List, length, subst, sym, arith}
use Rattle.std.proofs.lemmas.Bool.{eqb-false}
use Rattle.disks.specs.Folders.{Lists}
use Rattle.disks.specs.declared.disk.FolderEntry.{FolderEntry}
use Rattle.wrong_commands.proofs.Emptied.{not_empty}
use Rattle.wrong_commands.proofs.listings.folder_that_looks_empty.Goals as goal

pub returns-in-Ok : goal.returns-in-Ok
returns-in-Ok g c = record {
  wrong = λ h.
      let held = g.D.Disk.holds c.args.disk.now in
      let many = eqb-false c.in-Ok.entries.len 0 (sym c.is_empty.ensures ∙ c.if-not-is_empty.true) in
      let full = c.in-Ok.entries.ok in
      let some : 0 < length c.in-Ok.entries.items = omega (arith, many, full) in
      not_empty held c.args.folder.now c.in-Ok.entries.items c.requires some c.in-Ok.ensures
      (subst (λ (x : List FolderEntry). Lists held c.args.folder.now x) c.new.ensures.items h);
}
