-- Locks that start one after the other.
use Rattle.std.proofs.Common.{◌≡◌, ◌∙◌, ◌<◌, ◌≤◌, ◌+◌, ◌⊎◌, inl, inr, ℕ, List, [], ◌∷◌, ◌++◌, length, map, get_or, Some, sym, ap, subst, refl, length-append, arith}
use Rattle.std.specs.Prelude.{slice_get}
use Rattle.std.proofs.Math.ListN.{get_or-append}
use Rattle.std.proofs.Math.Seq.{get_or-append_seam}
use Rattle.std.proofs.lemmas.Bool.{cases_lt}
use Rattle.std.proofs.lemmas.Option.{slice_get-map, slice_get-get_or, slice_get_within, get_or_from_slice_get}
use Rattle.saved_history.specs.declared.saved.SavedRing.{SavedRing}
use Rattle.ring_model.specs.declared.bases.Base.{Base}
use Rattle.endless_ring.specs.Endless.{EndlessView}
use Rattle.held_locks.specs.Kept.{LockView, IsKeptRing}
use Rattle.held_locks.specs.Opened.{IsAdded, HaveNoRoom, holder_after, open_in}
use Rattle.folder_of_locks.specs.declared.locks.ListedLock.{ListedLock}
use Rattle.folder_of_locks.specs.Lists.{Listed, listed}
use Rattle.folder_of_locks.specs.declared.faults.StartFault.{StartFault}
use Rattle.folder_of_locks.specs.declared.faults.StartFault.TheVariants as fault
use Rattle.folder_of_locks.specs.Rings.{IsRingOf, Starts, AreEachBegun, AreRingsRefused}

-- the lock at a place of a list
pub got : (locks : List ListedLock) (i : ℕ) (d : ListedLock) → i < length locks → slice_get (map listed locks) i ≡ Some (listed (get_or locks i d))
got locks i d lt = slice_get-map listed locks i ∙ rw (slice_get-get_or locks i d lt) refl

some_is : {X : Type 0} (x y : X) → Some x ≡ Some y → x ≡ y
some_is x y e = cc

-- an element of a list with one more
at_append : {X : Type 0} (xs : List X) (y : X) (i : ℕ) (v : X) → slice_get (xs ++ y ∷ []) i ≡ Some v → ((i < length xs) × (slice_get xs i ≡ Some v)) ⊎ ((i ≡ length xs) × (v ≡ y))
at_append {X} xs y i v h = by (cases_lt i (length xs))
  where
    within : i < length (xs ++ y ∷ [])
    within = slice_get_within (xs ++ y ∷ []) i v h

    is : get_or (xs ++ y ∷ []) i y ≡ v
    is = get_or_from_slice_get (xs ++ y ∷ []) i v y h

    by : (i < length xs) ⊎ (length xs ≤ i) → ((i < length xs) × (slice_get xs i ≡ Some v)) ⊎ ((i ≡ length xs) × (v ≡ y))
    by (inl lt) = inl (lt, slice_get-get_or xs i y lt ∙ ap (λ (x : X). Some x) (sym (get_or-append xs (y ∷ []) y i lt) ∙ is))
    by (inr ge) =
        let last : i ≡ length xs = omega (arith, ge, within, length-append xs (y ∷ [])) in
        inr (last, sym is ∙ ap (λ (k : ℕ). get_or (xs ++ y ∷ []) k y) last ∙ get_or-append_seam xs y [] y)

-- a lock more
pub begun_more : (bs : List Base) (ss : List SavedRing) (ls : List Listed) (old new : List LockView) (place : ℕ) (l : Listed) (e : EndlessView) → length old ≡ place → AreEachBegun bs ss ls old → slice_get ls place ≡ Some l →
    IsRingOf (slice_get bs place) (slice_get ss place) l e → IsKeptRing e → IsAdded old new e → (length new ≡ place + 1) × AreEachBegun bs ss ls new
begun_more bs ss ls old new place l e many each here ring kept added = (longer, more)
  where
    v : LockView
    v = record { ring = added.ring; queue = []; holder = holder_after (open_in e) }

    longer : length new ≡ place + 1
    longer = ap (λ (x : List LockView). length x) added.added ∙ length-append old (v ∷ []) ∙ ap (λ (n : ℕ). n + 1) many

    more : AreEachBegun bs ss ls new
    more i k w named is = by i k w named (at_append old v i w (subst (λ (x : List LockView). slice_get x i ≡ Some w) added.added is))
      where
        starts : (w : LockView) → w ≡ v → Starts e w
        starts w same = subst (Starts e) (sym same) (record { kept = kept; repaired = added.repaired; queue = refl; holder = refl })

        ring_here : (i : ℕ) (k : Listed) → i ≡ place → slice_get ls i ≡ Some k → IsRingOf (slice_get bs i) (slice_get ss i) k e
        ring_here i k at named =
            let there : slice_get ls place ≡ Some k = subst (λ (j : ℕ). slice_get ls j ≡ Some k) at named in
            let same : l ≡ k = some_is l k (sym here ∙ there) in
            subst (λ (j : ℕ). IsRingOf (slice_get bs j) (slice_get ss j) k e) (sym at) (subst (λ (x : Listed). IsRingOf (slice_get bs place) (slice_get ss place) x e) same ring)

        by : (i : ℕ) (k : Listed) (w : LockView) → slice_get ls i ≡ Some k → ((i < length old) × (slice_get old i ≡ Some w)) ⊎ ((i ≡ length old) × (w ≡ v)) → (f : EndlessView) × IsRingOf (slice_get bs i) (slice_get ss i) k f × Starts f w
        by i k w named (inl before) = each i k w named before.1
        by i k w named (inr last) = (e, ring_here i k (last.0 ∙ many) named, starts w last.1)

-- there is no room for it, or no memory
pub not_added : (bs : List Base) (ss : List SavedRing) (ls : List Listed) (before : List LockView) (place : ℕ) (l : Listed) (e : EndlessView) (why : StartFault) → length before ≡ place → slice_get ls place ≡ Some l →
    IsRingOf (slice_get bs place) (slice_get ss place) l e → IsKeptRing e → ((why ≡ fault.Full place) × HaveNoRoom before e) ⊎ (why ≡ fault.OutOfMemory) → AreRingsRefused bs ss ls why
not_added bs ss ls before place l e why many here ring kept (inl (same, room)) = inr (place, l, here, inr (inl (same, (before, e, many, ring, kept, room))))
not_added bs ss ls before place l e why many here ring kept (inr short) = inr (place, l, here, inr (inr short))
