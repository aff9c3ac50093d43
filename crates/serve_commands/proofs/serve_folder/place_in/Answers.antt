use Rattle.std.proofs.Common.{List, inr, sym, subst}
use Rattle.disks.specs.Folders.{Lists}
use Rattle.disks.specs.declared.disk.FolderEntry.{FolderEntry}
use Rattle.serve_commands.proofs.serve_folder.place_in.Goals as goal

pub returns-clause-err : goal.returns-clause-err
returns-clause-err g c =
    inr (c.as_slice-2.result.now, subst (λ (es : List FolderEntry). Lists (g.D.Disk.holds c.args.disk.now) c.args.folder.now es) (sym c.as_slice-2.ensures.value) c.in-Ok.ensures, inr c.in-Err.ensures.err)
