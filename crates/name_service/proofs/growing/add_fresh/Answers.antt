use Rattle.std.proofs.Common.{inl, inr, subst}
use Rattle.lock_names.specs.declared.growing.NotGrown.{NotGrown}
use Rattle.lock_names.specs.Grown.{CannotGrow}
use Rattle.name_service.proofs.GrownPools.{not_fresh}
use Rattle.name_service.proofs.growing.add_fresh.Goals as goal

pub returns-in-Ok-add-clause-ok : goal.returns-in-Ok-add-clause-ok
returns-in-Ok-add-clause-ok c = record {
  ring = c.in-Ok.ring;
  kept = c.in-Ok.ensures.kept;
  fresh = c.in-Ok.ensures.ok;
  added = c.in-Ok-add.ensures.ok;
}

pub returns-in-Err-clause-why : goal.returns-in-Err-clause-why
returns-in-Err-clause-why c =
    let old = c.args.names in
    let ring = c.in-Ok.ring in
    elim c.not_added.ensures [
      | inl p ↦ inl (p.1, not_fresh c.args.size old ring c.in-Ok.ensures.kept c.in-Ok.ensures.ok (subst (λ (w : NotGrown). CannotGrow old ring w) p.0 c.in-Err.ensures.why))
      | inr q ↦ inr q
    ]
