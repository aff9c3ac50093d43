use Rattle.std.proofs.Common.{ℕ, List, inr, map, subst}
use Rattle.folder_of_locks.specs.Holders.{hold_of}
use Rattle.lock_commands.specs.Locks.{folder_of}
use Rattle.lock_commands.specs.Lending.{IsListRefused}
use Rattle.lock_commands.proofs.lending.refused_unknown.Goals as goal

pub returns : goal.returns
returns g c =
    let words = c.args.words.now in
    let after = g.D.Disk.holds c.lock_folder.new.disk in
    let refused = subst (λ (file : List ℕ). IsListRefused (folder_of words) file after c.args.why c.list_fault.result) c.name_of.ensures c.list_fault.ensures in
    inr (map hold_of c.in-Ok._holders.items, c.in-Ok.ensures.ok, inr (c.in-Ok-lock_folder.ensures.locked, refused))
