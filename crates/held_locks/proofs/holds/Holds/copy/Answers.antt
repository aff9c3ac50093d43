use Rattle.std.proofs.Common.{◌≡◌, ℕ, List, Option, sym, subst, ◌∙◌}
use Rattle.held_locks.specs.Holding.{chain_count, AreChained}
use Rattle.held_locks.proofs.Chaining.{same_chained}
use Rattle.held_locks.proofs.holds.Holds.copy.Goals as goal

pub invariant_of-result : goal.invariant_of-result
invariant_of-result c =
    let clients : c.in-Ok.clients.items ≡ c.self.inside.clients.items = c.in-Ok.ensures.items ∙ c.as_slice.ensures.value in
    let next : c.in-Ok-from_slice.next.items ≡ c.self.inside.next.items = c.in-Ok-from_slice.ensures.items ∙ c.as_slice-2.ensures.value in
    let previous : c.in-Ok-from_slice-2.previous.items ≡ c.self.inside.previous.items = c.in-Ok-from_slice-2.ensures.items ∙ c.as_slice-3.ensures.value in
    subst (λ (x : List (Option ℕ)). AreChained chain_count c.in-Ok-from_slice.next.items c.in-Ok-from_slice-2.previous.items x) (sym clients)
    (same_chained chain_count c.self.inside.next.items c.self.inside.previous.items c.in-Ok-from_slice.next.items c.in-Ok-from_slice-2.previous.items c.self.inside.clients.items next previous c.self.invariant)
