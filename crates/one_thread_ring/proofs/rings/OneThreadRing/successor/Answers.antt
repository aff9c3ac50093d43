use Rattle.std.proofs.Common.{rules, ℕ, subst}
use Rattle.one_thread_ring.specs.Clients.{told_all}
use Rattle.one_thread_ring.specs.Rings.{AreFresh}
use Rattle.one_thread_ring.proofs.Kept.{opened_kept, new_fresh}
use Rattle.one_thread_ring.proofs.rings.OneThreadRing.successor.Goals as goal

pub invariant_of-result : goal.invariant_of-result
invariant_of-result g c =
    opened_kept g.R.Resource.works g.R.Resource.first c.in_ok-state.state c.in-Ok.book c.in_ok-clients.clients.items c.seats-seats.result c.seats-seats.ensures.few c.in-Ok.ensures.book (search rules) c.in_ok-clients.ensures

pub returns-in-Ok-clause-ring : goal.returns-in-Ok-clause-ring
returns-in-Ok-clause-ring g c = (invariant_of-result g c).ring

pub returns-in-Ok-clause-fresh : goal.returns-in-Ok-clause-fresh
returns-in-Ok-clause-fresh g c = (
  search rules,
  subst (λ (n : ℕ). AreFresh n (told_all c.in-Ok.book.history c.in_ok-clients.clients.items)) c.seats-seats.ensures.is
      (new_fresh c.seats-seats.result c.in-Ok.book.history c.in_ok-clients.clients.items (search rules) c.in_ok-clients.ensures),
)
