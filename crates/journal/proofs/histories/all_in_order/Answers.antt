use Rattle.std.proofs.Common.{List, map, rules, sym, ap, ◌∙◌}
use Rattle.std.proofs.lemmas.Iterator.Consumers.{YieldsList-end}
use Rattle.std.proofs.lemmas.Iterator.Adapters.{YieldsList-from_vec}
use Rattle.saved_history.specs.declared.saved.SavedRing.{SavedRing}
use Rattle.saved_history.specs.Content.{block_of}
use Rattle.journal.specs.ContentAfter.{in_order}
use Rattle.journal.proofs.Placings.{map_same, ordered_more}
use Rattle.journal.proofs.histories.all_in_order.Goals as goal

pub loop-ring-preserved : goal.loop-ring-preserved
loop-ring-preserved c = ap (map block_of) c.in_ok-push.ensures.items ∙ ordered_more c.loop-ring.found.items c.loop-ring.yielded c.in_ok-in_order.field-0 c.in-Some.ring c.loop-ring.invariant c.in_ok-in_order.ensures

pub returns : goal.returns
returns c =
    let road = YieldsList-from_vec {s = c.into_iter-ring-iterator.result} c.args.rings.items (search rules) (search rules) in
    let all = YieldsList-end road c.loop-ring.yielded c.loop-ring.ring-iterator c.loop-ring.yielded_by c.next.result c.next.new.self c.in-None.is c.next.ensures.steps in
    c.loop-ring.invariant ∙ ap (λ (xs : List SavedRing). map in_order (map block_of xs)) (sym (map_same c.loop-ring.yielded) ∙ all.0)
