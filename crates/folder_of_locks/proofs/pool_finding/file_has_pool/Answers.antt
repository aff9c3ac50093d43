use Rattle.std.proofs.Common.{ℕ, List, sym, subst}
use Rattle.folder_of_locks.specs.Pools.{pooled, IsPooledFile}
use Rattle.folder_of_locks.proofs.pool_finding.file_has_pool.Goals as goal

pub returns-in-Ok-folder_list_in-clause-ok : goal.returns-in-Ok-folder_list_in-clause-ok
returns-in-Ok-folder_list_in-clause-ok g c = (
  pooled c.in-Ok-folder_list_in.list,
  record {
    bytes = c.in-Ok.bytes.items;
    held = c.in-Ok.ensures.ok;
    list = subst (λ (u : List ℕ). IsPooledFile u (pooled c.in-Ok-folder_list_in.list)) c.deref.ensures.value c.in-Ok-folder_list_in.ensures.ok;
  },
  sym c.is_some.ensures,
)
