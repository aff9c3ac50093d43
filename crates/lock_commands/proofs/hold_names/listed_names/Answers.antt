use Rattle.std.proofs.Common.{List, ℕ, Some, map, inr, sym, ap, subst, ◌∙◌}
use Rattle.disks.specs.Held.{IsHeld}
use Rattle.folder_of_locks.specs.declared.locks.ListedLock.{ListedLock}
use Rattle.folder_of_locks.specs.Folders.{locks_file}
use Rattle.folder_of_locks.specs.Lists.{listed, names_of}
use Rattle.folder_of_locks.specs.Pools.{pooled}
use Rattle.lock_commands.proofs.hold_names.listed_names.Goals as goal

pub returns-in-Err-check_rings-clause-err : goal.returns-in-Err-check_rings-clause-err
returns-in-Err-check_rings-clause-err g c =
    inr (
      pooled c.in-Ok-folder_list_in.list,
      record {
        bytes = c.as_slice.result.now;
        held = subst (λ (t : List ℕ). IsHeld (g.D.Disk.holds c.args.disk.now) (locks_file c.args.folder.now) t) (sym c.as_slice.ensures.value) c.in-Ok.ensures.ok;
        list = c.in-Ok-folder_list_in.ensures.ok;
      },
      c.in-Err-check_rings.ensures.err,
    )

pub returns-in-Ok-bound_rings-clause-ok : goal.returns-in-Ok-bound_rings-clause-ok
returns-in-Ok-bound_rings-clause-ok g c = record {
  list = pooled c.in-Ok-folder_list_in.list;
  file = record {
    bytes = c.as_slice.result.now;
    held = subst (λ (t : List ℕ). IsHeld (g.D.Disk.holds c.args.disk.now) (locks_file c.args.folder.now) t) (sym c.as_slice.ensures.value) c.in-Ok.ensures.ok;
    list = c.in-Ok-folder_list_in.ensures.ok;
  };
  enough = c.in-Ok-check_rings.ensures.ok;
  named = ap Some (c.in-Ok-names_of.ensures.ok ∙ ap (λ (ls : List ListedLock). names_of (map listed ls)) c.as_slice-2.ensures.value);
  bound = c.in-Ok-bound_rings.ensures;
}
