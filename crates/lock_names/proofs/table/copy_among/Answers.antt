use Rattle.lock_names.proofs.Copied.{few_copied, not_copied, copied_more, copied_all}
use Rattle.lock_names.proofs.table.copy_among.Goals as goal

pub copy_ring-requires-clause-few : goal.copy_ring-requires-clause-few
copy_ring-requires-clause-few c = few_copied c.args.bound.now c.loop-binding.binding-index c.loop-binding.copy c.loop-binding.invariant c.requires.few

pub copy_ring-requires-clause-unused : goal.copy_ring-requires-clause-unused
copy_ring-requires-clause-unused c = λ b e. not_copied c.args.bound.now c.loop-binding.binding-index c.binding-item.result b c.loop-binding.copy c.loop-binding-test.true c.binding-item.is e c.loop-binding.invariant c.requires.once

pub loop-binding-preserved : goal.loop-binding-preserved
loop-binding-preserved c = copied_more c.args.bound.now c.loop-binding.binding-index c.binding-item.result c.loop-binding.copy c.copy_ring.new.copy c.loop-binding-test.true c.binding-item.is c.loop-binding.invariant c.in-Ok.ensures

pub returns : goal.returns
returns c = copied_all c.args.bound.now c.loop-binding.binding-index c.loop-binding.copy c.loop-binding-test.false c.loop-binding.invariant
