-- A lock that is added over a ring with no events is free.
use Rattle.std.proofs.Common.{◌≡◌, ℕ, ◌+◌, List, [], ◌∷◌, map, drop, length, refl, sym, ap, ◌∙◌, subst, Option, None, arith}
use Rattle.std.specs.List.{All}
use Rattle.std.proofs.lemmas.List.{drop_all, length-append}
use Rattle.std.proofs.lemmas.List.Elements.{All-nil, All-cons, All-append}
use Rattle.ring_model.specs.declared.events.Event.{Event}
use Rattle.ring_model.specs.Bases.{shifted}
use Rattle.endless_ring.specs.Endless.{EndlessView}
use Rattle.held_locks.specs.Locks.{Call}
use Rattle.held_locks.specs.Promises.{open_after}
use Rattle.held_locks.specs.Kept.{LockView}
use Rattle.held_locks.specs.Opened.{ended_before, events_in, open_in, holder_after, IsAdded}
use Rattle.c_calls.specs.Desks.{IsNewRing, IsFree}

none_open : (e : EndlessView) → e.ring.book.history ≡ [] → open_in e ≡ None
none_open e h =
    let nothing : events_in e ≡ [] = ap (λ (es : List Event). shifted e.base es) h in
    let rest : drop (ended_before e) (events_in e) ≡ [] = ap (λ (es : List Event). drop (ended_before e) es) nothing ∙ drop_all (ended_before e) [] (omega arith) in
    ap (λ (es : List Event). open_after None (map Call es)) rest

pub added_free : (machines : ℕ) (old new : List LockView) (e : EndlessView) → IsAdded old new e → IsNewRing machines e → All (IsFree machines) old → All (IsFree machines) new
added_free machines old new e a fresh free =
    let v : LockView = record { ring = a.ring; queue = []; holder = holder_after (open_in e) } in
    let one : IsFree machines v = record {
      ring = e;
      new = fresh;
      over = record { ring = a.ring; repaired = a.repaired; added = refl };
      queue = refl;
      holder = ap (λ (t : Option ℕ). holder_after t) (none_open e fresh.1.2);
    } in
    subst (λ (vs : List LockView). All (IsFree machines) vs) (sym a.added) (All-append (IsFree machines) old (v ∷ []) free (All-cons (IsFree machines) v [] one (All-nil (IsFree machines))))

pub added_many : (old new : List LockView) (e : EndlessView) → IsAdded old new e → length new ≡ length old + 1
added_many old new e a = ap length a.added ∙ length-append old (record { ring = a.ring; queue = []; holder = holder_after (open_in e) } ∷ [])
