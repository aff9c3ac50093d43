use Rattle.std.proofs.Common.{refl, sym, ap, subst, map, rules}
use Rattle.history_picture.specs.Walks.{stretch_of, AreNew}
use Rattle.history_picture.proofs.Walking.{new_at}
use Rattle.history_picture.proofs.stretches.new_rows.Goals as goal

pub loop-machine-preserved : goal.loop-machine-preserved
loop-machine-preserved c = record {
  len = search rules;
  new = subst AreNew (sym c.in_ok-push.ensures.items) (λ i d p lt. new_at c.loop-machine.rows.items (record { begin = 0; ended = c.new.result }) i d p c.loop-machine.invariant.new (record { begin = refl; ended = ap (map stretch_of) c.new.ensures.items }) lt);
}
