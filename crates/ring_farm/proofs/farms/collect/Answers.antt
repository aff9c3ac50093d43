use Rattle.std.proofs.Common.{rules, ◌≡◌, ◌∙◌, ℕ, ap, sym, Some, length, take, slice_get}
use Rattle.std.proofs.lemmas.List.{length-map}
use Rattle.std.proofs.lemmas.Iterator.Consumers.{YieldsList-turn, YieldsList-so_far}
use Rattle.std.proofs.lemmas.Iterator.Adapters.{YieldsList-from_vec}
use Rattle.std.proofs.lemmas.Option.{slice_get-get_or}
use Rattle.ring_farm.proofs.Pairing.{map_same}
use Rattle.ring_farm.proofs.Refusals.{refusal_here}
use Rattle.ring_farm.proofs.farms.collect.Goals as goal

pub returns-in-Err-clause-err : goal.returns-in-Err-clause-err
returns-in-Err-clause-err c =
    let road = YieldsList-from_vec {s = c.into_iter-result-iterator.result} c.args.results.items (search rules) (search rules) in
    let t = YieldsList-turn road c.loop-result.yielded c.loop-result.result-iterator c.loop-result.yielded_by c.next.result c.next.new.self c.in-Some.result c.in-Some.is c.next.ensures.steps in
    let so = YieldsList-so_far road c.loop-result.yielded c.loop-result.result-iterator c.loop-result.yielded_by in
    let inv = c.loop-result.invariant.1 in
    let n : length c.loop-result.yielded ≡ length c.loop-result.rings.items = ap length inv ∙ length-map _ _ in
    let front = map_same c.loop-result.yielded ∙ so in
    let at = slice_get-get_or c.args.results.items (length c.loop-result.yielded) c.in-Some.result t.0 in
    refusal_here c.args.results.items c.loop-result.rings.items c.in-Err.fault
    (ap (λ (k : ℕ). take k c.args.results.items) (sym n) ∙ (sym front ∙ inv))
    (ap (slice_get c.args.results.items) (sym n) ∙ (at ∙ ap (λ x. Some x) (sym t.1 ∙ c.in-Err.is)))
