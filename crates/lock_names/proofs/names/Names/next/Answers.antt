use Rattle.std.proofs.Common.{refl, subst}
use Rattle.lock_names.specs.Kept.{NamedView, seen}
use Rattle.lock_names.specs.Grown.{AreNextNames}
use Rattle.lock_names.proofs.Grows.{next_names, next_kept}
use Rattle.lock_names.proofs.names.Names.next.Goals as goal

pub invariant_of-result : goal.invariant_of-result
invariant_of-result c =
    let v = seen c.self.inside.rings c.self.inside.table in
    let w : NamedView = record { locks = c.in-Ok.locks; names = c.in-Ok-copy.table; fixed = c.self.inside.rings.fixed; top = c.self.inside.rings.top } in
    next_kept v w c.self.invariant (next_names v w c.in-Ok.ensures.ok c.in-Ok-copy.ensures refl refl)

pub returns-clause-ok : goal.returns-clause-ok
returns-clause-ok c =
    let v = seen c.self.inside.rings c.self.inside.table in
    let w : NamedView = record { locks = c.in-Ok.locks; names = c.in-Ok-copy.table; fixed = c.self.inside.rings.fixed; top = c.self.inside.rings.top } in
    subst (λ (x : NamedView). AreNextNames x w) c.self.view_is (next_names v w c.in-Ok.ensures.ok c.in-Ok-copy.ensures refl refl)
