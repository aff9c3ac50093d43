use Rattle.std.proofs.Common.{◌≡◌, List, ℕ, Some, sym, ◌∙◌, subst}
use Rattle.lock_names.specs.Names.{found}
use Rattle.held_locks.specs.Asked.{asked}
use Rattle.lock_names.specs.Kept.{seen, IsAsked}
use Rattle.lock_names.proofs.Taking.{ring_found}
use Rattle.lock_names.proofs.names.ask_among.Goals as goal

pub ask_bound-requires-clause-ring : goal.ask_bound-requires-clause-ring
ask_bound-requires-clause-ring c =
    let r = ring_found c.args.name.now c.args.table.now c.in-Some.ring (sym c.find.ensures ∙ c.in-Some.is) in
    (r.0, subst (λ (x : List ℕ). found x c.args.table.now ≡ Some (c.in-Some.ring, r.0)) (sym r.2) r.1)

pub returns-in-Some-clause-asked : goal.returns-in-Some-clause-asked
returns-in-Some-clause-asked c =
    let r = ring_found c.args.name.now c.args.table.now c.in-Some.ring (sym c.find.ensures ∙ c.in-Some.is) in
    subst (λ (x : List ℕ). IsAsked (seen c.args.rings.now c.args.table.now) (seen c.ask_bound.new.rings c.ask_bound.new.table) c.args.client x (asked c.args.ask) c.ask_bound.result.answers) r.2
    (c.ask_bound.ensures.asked r.0 (subst (λ (x : List ℕ). found x c.args.table.now ≡ Some (c.in-Some.ring, r.0)) (sym r.2) r.1))
