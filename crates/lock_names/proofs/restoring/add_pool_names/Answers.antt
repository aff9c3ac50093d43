use Rattle.std.proofs.Common.{◌++◌, take, List, Option, inl, refl, ◌∙◌, ap}
use Rattle.name_bindings.specs.Bindings.{Bound}
use Rattle.lock_names.specs.Table.{bounds_of}
use Rattle.lock_names.proofs.Copied.{copied_all}
use Rattle.lock_names.proofs.Restores.{pool_twice, pool_few, pool_more}
use Rattle.lock_names.proofs.restoring.add_pool_names.Goals as goal

pub returns-then-is_taken-clause-why : goal.returns-then-is_taken-clause-why
returns-then-is_taken-clause-why c =
    let b = c.is_taken.ensures.yes c.if-is_taken.true in
    inl (refl, λ once. pool_twice c.args.table.now c.loop-binding.table c.args.pool.now c.loop-binding.binding-index c.binding-item.result b.0 c.loop-binding-test.true c.binding-item.is b.1 c.loop-binding.invariant b.2 once)

pub copy_ring-requires-clause-few : goal.copy_ring-requires-clause-few
copy_ring-requires-clause-few c = pool_few c.args.table.now c.loop-binding.table c.args.pool.now c.loop-binding.binding-index c.loop-binding.invariant c.requires.few

pub copy_ring-requires-clause-unused : goal.copy_ring-requires-clause-unused
copy_ring-requires-clause-unused c = c.is_taken.ensures.no c.if-is_taken.false

pub loop-binding-preserved : goal.loop-binding-preserved
loop-binding-preserved c = pool_more c.args.table.now c.loop-binding.table c.copy_ring.new.copy c.args.pool.now c.loop-binding.binding-index c.binding-item.result c.loop-binding-test.true c.binding-item.is c.loop-binding.invariant c.in-Ok.ensures

pub returns-clause-ok : goal.returns-clause-ok
returns-clause-ok c =
    c.loop-binding.invariant
    ∙ ap (λ (x : List (Option Bound)). c.args.table.now ++ x) (copied_all c.args.pool.now c.loop-binding.binding-index (take c.loop-binding.binding-index (bounds_of c.args.pool.now)) c.loop-binding-test.false refl)
