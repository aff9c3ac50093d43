-- Locks whose open holds are handed over still begin a segment: their rings are the same, and so are their tokens.
use Rattle.std.proofs.Common.{◌≡◌, ℕ, suc, List, [], ◌∷◌, map, Option, Some, refl, sym, ◌∙◌, ap, subst, inl, inr, slice_get, zero}
use Rattle.std.specs.Prelude.{slice_set}
use Rattle.std.proofs.lemmas.List.{map-set}
use Rattle.std.proofs.lemmas.Option.{slice_get-map}
use Rattle.std.specs.Option.{option_map}
use Rattle.endless_ring.specs.Endless.{EndlessView}
use Rattle.ring_service.specs.Standings.{standing_of}
use Rattle.saved_history.specs.Spelling.{Fits}
use Rattle.held_locks.specs.declared.answers.Holder.{Holder}
use Rattle.held_locks.specs.declared.handing.Handover.{Handover}
use Rattle.held_locks.specs.Promises.{token_of}
use Rattle.held_locks.specs.Kept.{LockView}
use Rattle.held_locks.specs.Handed.{handed, IsHanded}
use Rattle.held_locks.proofs.HandedOver.{kept_handed}
use Rattle.held_locks.proofs.Standing.{get_set}
use Rattle.lock_journal.specs.Begun.{IsBegun, HaveBegun}
use Rattle.lock_journal.specs.Recovered.{HandedLocksBegin}
use Rattle.lock_journal.specs.Segments.{ring_of}
use Rattle.ring_service.specs.Saved as saved

some_is : {X : Type 0} (x y : X) → ◌≡◌ {A = Option X} (Some x) (Some y) → x ≡ y
some_is x y e = cc

set_there : {X : Type 0} (xs : List X) (i : ℕ) (x : X) → slice_get xs i ≡ Some x → slice_set xs i x ≡ xs
set_there [] i x e = refl
set_there {X} (y ∷ xs) zero x e = ap (λ (z : X). z ∷ xs) (sym (some_is y x e))
set_there {X} (y ∷ xs) (suc i) x e = ap (λ (z : List X). y ∷ z) (set_there xs i x e)

same_rings : (old new : List LockView) (h : Handover) → IsHanded old new h → map ring_of new ≡ map ring_of old
same_rings old new h is =
    let there : slice_get (map ring_of old) h.lock ≡ Some is.lock.ring = slice_get-map ring_of old h.lock ∙ ap (λ (x : Option LockView). option_map ring_of x) is.there in
    ap (λ (x : List LockView). map ring_of x) is.new_is ∙ map-set ring_of old h.lock (handed is.lock h) ∙ set_there (map ring_of old) h.lock is.lock.ring there

begun_handed : (v : LockView) (h : Handover) → v.holder ≡ Some (record { client = 0; token = h.token }) → IsBegun v → IsBegun (handed v h)
begun_handed v h held b = record { shown = b.shown ∙ ap (λ (x : Option Holder). token_of x) held; small = b.small }

pub each_handed : (old new : List LockView) (h : Handover) → IsHanded old new h → ((i : ℕ) (v : LockView) → slice_get old i ≡ Some v → IsBegun v) → (i : ℕ) (v : LockView) → slice_get new i ≡ Some v → IsBegun v
each_handed old new h is each i v at =
    elim (get_set old h.lock i (handed is.lock h) is.lock v is.there (subst (λ (x : List LockView). slice_get x i ≡ Some v) is.new_is at)) [
      | inl p ↦ subst (λ (x : LockView). IsBegun x) (sym p.1) (begun_handed is.lock h is.held.held (each h.lock is.lock is.there))
      | inr p ↦ each i v p.1
    ]

one_handed : (old new : List LockView) (h : Handover) → IsHanded old new h → HaveBegun old → HaveBegun new
one_handed old new h is b = record {
  entries = b.entries;
  kept = kept_handed old new b.entries h b.kept is;
  each = each_handed old new h is b.each;
  text = subst (λ (es : List EndlessView). Fits (saved.content_of (map standing_of es))) (sym (same_rings old new h is)) b.text;
}

pub handed_locks_begin : HandedLocksBegin
handed_locks_begin old new [] b same = subst (λ (x : List LockView). HaveBegun x) (sym same) b
handed_locks_begin old new (h ∷ hs) b (mid, is, are) = handed_locks_begin mid new hs (one_handed old mid h is b) are
