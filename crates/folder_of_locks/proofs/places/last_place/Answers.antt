use Rattle.std.proofs.Common.{List, inr, map, refl, subst}
use Rattle.saved_history.specs.declared.saved.SavedRing.{SavedRing}
use Rattle.ring_model.specs.declared.bases.Base.{Base}
use Rattle.folder_of_locks.specs.Lists.{listed}
use Rattle.folder_of_locks.specs.Rings.{AreBegun, AreRingsRefused}
use Rattle.folder_of_locks.proofs.places.last_place.Goals as goal

pub returns-in-Ok-locks_of-clause-ok : goal.returns-in-Ok-locks_of-clause-ok
returns-in-Ok-locks_of-clause-ok g c = record {
  segment = c.in-Ok.last;
  last = c.in-Ok.ensures.ok;
  begun =
      subst (λ (b : List Base). AreBegun b c.in-Ok.last.saved.rings.items (map listed c.args.list.now) c.in-Ok-locks_of.locks) c.deref-2.ensures.value
      (subst (λ (r : List SavedRing). AreBegun c.deref-2.result.now r (map listed c.args.list.now) c.in-Ok-locks_of.locks) c.deref.ensures.value c.in-Ok-locks_of.ensures.ok);
  number = refl;
  behind = refl;
}

pub returns-clause-err : goal.returns-clause-err
returns-clause-err g c =
    inr (
      c.in-Ok.last,
      c.in-Ok.ensures.ok,
      subst (λ (b : List Base). AreRingsRefused b c.in-Ok.last.saved.rings.items (map listed c.args.list.now) c.in-Err-locks_of.fault) c.deref-2.ensures.value
          (subst (λ (r : List SavedRing). AreRingsRefused c.deref-2.result.now r (map listed c.args.list.now) c.in-Err-locks_of.fault) c.deref.ensures.value c.in-Err-locks_of.ensures.err),
    )
