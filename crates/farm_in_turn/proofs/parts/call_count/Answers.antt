use Rattle.std.proofs.Common.{◌≡◌, ℕ, ◌+◌, ◌<◌, ◌≤◌, ◌∙◌, List, [], All, filter, length, take, get_or, sym, ap, arith}
use Rattle.std.proofs.lemmas.List.{get_or_read}
use Rattle.std.proofs.lemmas.List.Sums.{length-filter, count_by-le-length, sum_by_more}
use Rattle.ring_settings.specs.declared.actions.Action.{Action}
use Rattle.ring_settings.specs.Limits.{action_limit}
use Rattle.ring_farm.specs.Plans.{is_call}
use Rattle.farm_in_turn.specs.Refusals.{call_count}
use Rattle.farm_in_turn.proofs.parts.call_count.Goals as goal

-- one part more is counted
one_more : (parts : List (List Action)) (i : ℕ) (x : List Action) → i < length parts → x ≡ get_or parts i x → All (λ (p : List Action). length p ≤ action_limit) parts →
    (call_count (take (i + 1) parts) ≡ call_count (take i parts) + length (filter is_call x)) × (length (filter is_call x) ≤ action_limit)
one_more parts i x lt at few =
    let same : x ≡ get_or parts i [] = get_or_read parts i x lt at [] in
    let size : length x ≤ action_limit = rw same (few i [] lt) in
    let calls = length-filter is_call x in
    let most = count_by-le-length is_call x in
    (sum_by_more (λ (p : List Action). length (filter is_call p)) parts i [] lt ∙ ap (λ (p : List Action). call_count (take i parts) + length (filter is_call p)) (sym same), omega arith)

pub overflow_cast-count : goal.overflow_cast-count
overflow_cast-count c =
    let more = one_more c.args.parts.now c.loop-part.part-index _ c.loop-part-test.true c.part-item.is c.requires.few in
    let few = more.1 in
    let is = c.calls.ensures in omega arith

pub overflow_add-count : goal.overflow_add-count
overflow_add-count c =
    let more = one_more c.args.parts.now c.loop-part.part-index _ c.loop-part-test.true c.part-item.is c.requires.few in
    let few = more.1 in
    let is = c.calls.ensures in
    let so = c.loop-part.invariant.1 in
    let within = c.loop-part-test.true in
    let seats = c.requires.seats in omega arith

pub loop-part-preserved : goal.loop-part-preserved
loop-part-preserved c =
    let more = one_more c.args.parts.now c.loop-part.part-index _ c.loop-part-test.true c.part-item.is c.requires.few in
    let sum = more.0 in
    let few = more.1 in
    let is = c.calls.ensures in
    let so = c.loop-part.invariant.0 in
    let most = c.loop-part.invariant.1 in (omega arith, omega arith)
