use Rattle.std.proofs.Common.{◌≡◌, ap, subst}
use Rattle.lock_names.specs.declared.asks.Rings.{Rings}
use Rattle.lock_names.specs.Kept.{NamedView, seen}
use Rattle.lock_names.specs.Handed.{IsHandedByName, CannotBeHandedByName}
use Rattle.lock_names.proofs.names.Names.hand.Goals as goal

pub returns-clause-yes : goal.returns-clause-yes
returns-clause-yes c = λ done.
    let w = seen c.hand_among.new.rings c.self.inside.table in
    subst (λ (v : NamedView). IsHandedByName v w c.args.name.now c.args.token c.args.client) c.self.view_is (c.hand_among.ensures.yes done)

pub returns-clause-no : goal.returns-clause-no
returns-clause-no c = λ refused.
    let w = seen c.hand_among.new.rings c.self.inside.table in
    let same = c.hand_among.ensures.no refused in (
      subst (λ (v : NamedView). CannotBeHandedByName v c.args.name.now c.args.token) c.self.view_is same.0,
      subst (λ (v : NamedView). w ≡ v) c.self.view_is (ap (λ (r : Rings). seen r c.self.inside.table) same.1),
    )
