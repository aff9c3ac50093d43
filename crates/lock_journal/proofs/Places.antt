-- Locks by their places, and what adds up over them.
use Rattle.std.proofs.Common.{◌≡◌, ℕ, ◌+◌, List, [], ◌∷◌, ◌++◌, map, length, get_or, Option, Some, refl, sym, ◌∙◌, ap, arith, slice_get, ◌<◌, take, ◌≤◌}
use Rattle.std.specs.Prelude.{option_map}
use Rattle.std.proofs.lemmas.List.{take_more, length-map}
use Rattle.std.proofs.lemmas.Option.{get_or_from_slice_get, slice_get-map}
use Rattle.endless_ring.specs.Endless.{EndlessView}
use Rattle.held_locks.proofs.AllLeft.{there_is}
use Rattle.held_locks.specs.Kept.{LockView}
use Rattle.ring_model.specs.declared.bases.Base.{Base}
use Rattle.ring_service.specs.Segments.{bases_of}
use Rattle.lock_journal.specs.Segments.{rings_of, ring_of}

-- the ring at a place
pub ring_at : (vs : List LockView) (i : ℕ) (e : EndlessView) → i < length vs → ((v : LockView) → slice_get vs i ≡ Some v → e ≡ v.ring) → e ≡ get_or (map ring_of vs) i e
ring_at vs i e l is =
    let v = there_is vs i l in
    is v.0 v.1 ∙ sym (get_or_from_slice_get (map ring_of vs) i v.0.ring e (slice_get-map ring_of vs i ∙ ap (λ (x : Option LockView). option_map ring_of x) v.1))

pub below_map : (vs : List LockView) (i : ℕ) → i < length vs → i < length (map ring_of vs)
below_map vs i l = let n = length-map vs ring_of in omega (arith, l, n)

pub past_map : (vs : List LockView) (i : ℕ) → length vs ≤ i → length (map ring_of vs) ≤ i
past_map vs i l = let n = length-map vs ring_of in omega (arith, l, n)

-- the base of one ring more
pub base_more : (vs : List LockView) (i : ℕ) (e : EndlessView) (b : Base) (was now : List Base) → i < length vs → ((v : LockView) → slice_get vs i ≡ Some v → e ≡ v.ring) → b ≡ e.base → was ≡ bases_of (rings_of (take i vs)) → now ≡ was ++ b ∷ [] →
    now ≡ bases_of (rings_of (take (i + 1) vs))
base_more vs i e b was now l is at p q =
    let v = there_is vs i l in
    let here : get_or vs i v.0 ≡ v.0 = get_or_from_slice_get vs i v.0 v.0 v.1 in
    let more : take (i + 1) vs ≡ take i vs ++ v.0 ∷ [] = take_more vs i v.0 l ∙ ap (λ (x : LockView). take i vs ++ x ∷ []) here in
    let base : b ≡ v.0.ring.base = at ∙ ap (λ (x : EndlessView). x.base) (is v.0 v.1) in
    q
    ∙ (ap (λ (xs : List Base). xs ++ b ∷ []) p
    ∙ (ap (λ (x : Base). bases_of (rings_of (take i vs)) ++ x ∷ []) base
    ∙ (sym (bases_push (take i vs) v.0) ∙ ap (λ (xs : List LockView). bases_of (rings_of xs)) (sym more))))
  where
    bases_push : (xs : List LockView) (v : LockView) → bases_of (rings_of (xs ++ v ∷ [])) ≡ bases_of (rings_of xs) ++ v.ring.base ∷ []
    bases_push [] v = refl
    bases_push (x ∷ xs) v = ap (λ (bs : List Base). x.ring.base ∷ bs) (bases_push xs v)
