use Rattle.std.proofs.Common.{rules, arith}
use Rattle.std.proofs.lemmas.List.Sorted.{IsPartitionPoint-from_clause, IsPartitionedBy-ltb}
use Rattle.name_history.specs.Kept.{is_older}
use Rattle.name_history.proofs.Partitions.{take_passing}
use Rattle.name_history.proofs.ring_names.older.Goals as goal

pub returns-clause-older : goal.returns-clause-older
returns-clause-older c =
    let parted = IsPartitionedBy-ltb (λ b. b.before) _ c.args.grants c.requires in
    let point = IsPartitionPoint-from_clause (is_older c.args.grants) _ _ c.partition_point.ensures.partitioned parted (λ a r q k. search rules) in
    take_passing (is_older c.args.grants) c.args.bindings.now c.partition_point.result c.partition_point.ensures.bound (λ k d lt. point.0 k d (omega arith) lt) (λ k d from lt. point.1 k d from lt)
