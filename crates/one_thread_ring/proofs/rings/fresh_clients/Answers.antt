use Rattle.std.proofs.Common.{◌+◌, List, ◌++◌, ◌∷◌, [], sym, ap, ◌∙◌, subst, arith}
use Rattle.one_thread_ring.specs.Clients.{ClientView, AreNew}
use Rattle.one_thread_ring.proofs.Kept.{new_more}
use Rattle.one_thread_ring.proofs.rings.fresh_clients.Goals as goal

pub loop-number-preserved : goal.loop-number-preserved
loop-number-preserved c =
    let n = c.loop-number.number in
    let items = c.push_reserved.ensures.items ∙ ap (λ (s : ClientView). c.loop-number.clients.items ++ s ∷ []) c.new.ensures in
    let cap = c.push_reserved.ensures.capacity in
    let room = c.loop-number.invariant.room in record {
      fresh = subst (λ (cs : List ClientView). AreNew (n + 1) cs) (sym items) (new_more n c.loop-number.clients.items c.loop-number.invariant.fresh);
      room = omega arith;
    }
