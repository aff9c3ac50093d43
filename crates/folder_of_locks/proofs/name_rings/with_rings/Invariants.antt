use Rattle.std.proofs.Common.{◌≡◌, ◌++◌, map, replicate}
use Rattle.folder_of_locks.specs.Lists.{listed}
use Rattle.folder_of_locks.specs.Pools.{pool_ring}
use Rattle.folder_of_locks.proofs.name_rings.with_rings.Given as goal

abbrev pub invariant-loop : goal.invariant-loop
invariant-loop l = map listed l.all.items ≡ map listed l.list ++ replicate l.counter (pool_ring l.size)
