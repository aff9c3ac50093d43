use Rattle.std.proofs.Common.{◌<◌, subst, All, List, arith}
use Rattle.std.proofs.lemmas.List.Sorted.{length_permutation}
use Rattle.ring_shared.specs.Client.{Client}
use Rattle.ring_shared.proofs.Orders.{has_logs, are_numbered, logs_length}
use Rattle.ring_shared.proofs.Numbers.{in_order}
use Rattle.ring_shared.proofs.closing.logs_by_number.Goals as goal

pub into_logs-requires-clause-room : goal.into_logs-requires-clause-room
into_logs-requires-clause-room g c = let n = length_permutation _ _ c.sort.ensures.permutation in let m = c.requires.room in omega arith

pub returns-clause-numbered : goal.returns-clause-numbered
returns-clause-numbered g c =
    let below = subst (λ (ss : List Client). All (λ (s : Client). s.number < g.N.Name.seats) ss) c.as_slice.ensures.value c.all_given.ensures in
    let t = in_order g.N.Name.seats _ _ c.sort.ensures.permutation c.sort.ensures.sorted c.requires.distinct below c.requires.all in (
      (let a = logs_length _ _ c.into_logs.ensures in let b = t.0 in omega arith),
      are_numbered _ _ t.1 c.into_logs.ensures,
      has_logs _ _ _ c.sort.ensures.permutation t.1 c.into_logs.ensures,
    )

pub returns-clause-sorted : goal.returns-clause-sorted
returns-clause-sorted g c = (_, c.sort.ensures.permutation, c.into_logs.ensures)
