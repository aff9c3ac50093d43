-- Whether a list that is named has a pool.
use Rattle.std.proofs.Common.{◌≡◌, ℕ, List, Bool, Option, Some, sym, subst}
use Rattle.std.specs.Prelude.{is_some}
use Rattle.folder_of_locks.specs.Pools.{Pooled, IsPooledWord}
use Rattle.folder_of_locks.specs.NameFolders.{IsPoolNamed}

pub named_pool : (given : Option (List ℕ)) (word : List ℕ) (l : Pooled) (has : Bool) → given ≡ Some word → IsPooledWord word l → has ≡ is_some l.pool → IsPoolNamed given has
named_pool given word l has same is h = subst (λ (w : Option (List ℕ)). IsPoolNamed w has) (sym same) (l, is, sym h)
