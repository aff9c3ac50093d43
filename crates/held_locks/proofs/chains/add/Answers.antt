use Rattle.std.proofs.Common.{◌≡◌, ◌++◌, ◌∷◌, [], List, ℕ, Option, None, sym, subst, ap, ◌∙◌}
use Rattle.held_locks.specs.Holding.{chain_count, AreChained}
use Rattle.held_locks.proofs.Chaining.{same_chained, lock_added}
use Rattle.held_locks.proofs.chains.add.Goals as goal

pub returns-in_default-clause-chained : goal.returns-in_default-clause-chained
returns-in_default-clause-chained c = c.add_ends.ensures.chained c.args.clients.now.items c.requires

pub returns-in_default-reserve-clause-chained : goal.returns-in_default-reserve-clause-chained
returns-in_default-reserve-clause-chained c =
    subst (λ (x : List (Option ℕ)). AreChained chain_count c.add_ends.new.next.items c.add_ends.new.previous.items x) (sym c.reserve.ensures.items) (c.add_ends.ensures.chained c.args.clients.now.items c.requires)

pub returns-in_default-add_link-clause-chained : goal.returns-in_default-add_link-clause-chained
returns-in_default-add_link-clause-chained c =
    subst (λ (x : List (Option ℕ)). AreChained chain_count c.add_link.new.next.items c.add_link.new.previous.items x) (sym c.reserve.ensures.items)
    (same_chained chain_count c.add_ends.new.next.items c.add_ends.new.previous.items c.add_link.new.next.items c.add_link.new.previous.items c.args.clients.now.items c.in_default-add_link.ensures.err.0 c.in_default-add_link.ensures.err.1 (c.add_ends.ensures.chained c.args.clients.now.items c.requires))

pub returns-clause-chained : goal.returns-clause-chained
returns-clause-chained c =
    let later : c.push_reserved.new.self.items ≡ c.args.clients.now.items ++ None ∷ [] = c.push_reserved.ensures.items ∙ ap (λ (x : List (Option ℕ)). x ++ None ∷ []) c.reserve.ensures.items in
    lock_added chain_count c.add_ends.new.next.items c.add_ends.new.previous.items c.add_link.new.next.items c.add_link.new.previous.items c.args.clients.now.items c.push_reserved.new.self.items c.in-Ok-add_link.ensures.ok.0 c.in-Ok-add_link.ensures.ok.1 later
    (c.add_ends.ensures.chained c.args.clients.now.items c.requires) c.in-Ok.ensures.ok
