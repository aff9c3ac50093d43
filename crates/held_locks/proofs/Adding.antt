-- A lock more, for which nobody waits.
use Rattle.std.proofs.Common.{◌≡◌, ℕ, zero, suc, ◌<◌, length, length-append, arith, Bool, true, false, List, [], ◌∷◌, ◌++◌, refl, sym, ◌∙◌, ap, subst, inl, inr, Option, Some, None}
use Rattle.std.specs.Prelude.{if◌then◌else◌, slice_get, ◌⊎◌}
use Rattle.std.proofs.lemmas.Bool.{both_ways}
use Rattle.std.proofs.lemmas.List.{map-append}
use Rattle.endless_ring.specs.Endless.{EndlessView}
use Rattle.ring_model.specs.Ring.{is_settled}
use Rattle.held_locks.specs.declared.answers.Waiter.{Waiter}
use Rattle.held_locks.specs.declared.answers.Holder.{Holder}
use Rattle.held_locks.specs.Queues.{Lock, stands, waits_for, holder_of}
use Rattle.held_locks.specs.Promises.{AreRight, IsRightLock}
use Rattle.held_locks.specs.Waiting.{lock_in, AreWaits}
use Rattle.held_locks.specs.Kept.{LockView, state_of, lock_of, locks_of, lock_limit, IsKeptRing, IsKeptLock, AreKept}
use Rattle.held_locks.proofs.Circles.{Same, ends_kept}
use Rattle.held_locks.proofs.Calls.{kept_is_ring}

pub get_push : {X : Type 0} (xs : List X) (x : X) (i : ℕ) (y : X) → slice_get (xs ++ x ∷ []) i ≡ Some y → (slice_get xs i ≡ Some y) ⊎ (y ≡ x)
get_push {X = X} [] x zero y e = let p : ◌≡◌ {A = Option X} (Some x) (Some y) = e in inr cc
get_push {X = X} [] x (suc i) y e = let p : ◌≡◌ {A = Option X} None (Some y) = e in absurd cc
get_push {X = X} (z ∷ xs) x zero y e = inl e
get_push {X = X} (z ∷ xs) x (suc i) y e = get_push xs x i y e

pub get_front : {X : Type 0} (xs : List X) (x : X) (i : ℕ) (y : X) → slice_get xs i ≡ Some y → slice_get (xs ++ x ∷ []) i ≡ Some y
get_front {X = X} [] x i y e = let p : ◌≡◌ {A = Option X} None (Some y) = e in absurd cc
get_front (z ∷ xs) x zero y e = e
get_front (z ∷ xs) x (suc i) y e = get_front xs x i y e

waits_push : (ls : List Lock) (l : Lock) (c : ℕ) → stands c l.queue ≡ false → waits_for (ls ++ l ∷ []) c ≡ waits_for ls c
waits_push [] l c e = ap (λ (b : Bool). if b then Some l else None) e
waits_push (x ∷ ls) l c e = ap (λ (w : Option Lock). if stands c x.queue then Some x else w) (waits_push ls l c e)

module _ (ls : List Lock) (l : Lock) (r : AreRight ls) (is : IsRightLock l) (empty : l.queue ≡ []) where
  nobody : (c : ℕ) → stands c l.queue ≡ false
  nobody c = ap (λ (x : List Waiter). stands c x) empty

  nobody_in : (c : ℕ) (m : Lock) → m ≡ l → stands c m.queue ≡ true → ⊥
  nobody_in c m e s = both_ways (stands c l.queue) (nobody c) (subst (λ (x : Lock). stands c x.queue ≡ true) e s)

  pub right_push : AreRight (ls ++ l ∷ [])
  right_push = record {
    each = λ i m e. elim (get_push ls l i m e) [
      | inl p ↦ r.each i m p
      | inr p ↦ subst (λ (x : Lock). IsRightLock x) (sym p) is
    ];
    once = λ c i j m n e f s t. elim (get_push ls l i m e) [
      | inl p ↦ elim (get_push ls l j n f) [
        | inl q ↦ r.once c i j m n p q s t
        | inr q ↦ absurd (nobody_in c n q t)
      ]
      | inr p ↦ absurd (nobody_in c m p s)
    ];
    ends = λ c. let e = r.ends c in ends_kept ls (ls ++ l ∷ []) (λ d. Same (ap holder_of (waits_push ls l d (nobody d)))) e.0 (Some c) e.1;
  }

  pub waits_more : (es : List (ℕ × ℕ)) → AreWaits ls es → AreWaits (ls ++ l ∷ []) es
  waits_more es k = record {
    there = λ c i e. let t = k.there c i e in (t.0, get_front ls l i t.0 t.1, t.2);
    known = λ c i m e s. elim (get_push ls l i m e) [
      | inl p ↦ k.known c i m p s
      | inr p ↦ absurd (nobody_in c m p s)
    ];
  }

right_view : (e : EndlessView) (h : Option Holder) → IsKeptRing e → is_settled (state_of e).ring.values ≡ true → IsRightLock (lock_of (record { ring = e; queue = []; holder = h }))
right_view e h k s = record { ring = kept_is_ring e k; settled = s; held = λ _. refl; apart = tt }

pub kept_push : (vs : List LockView) (es : List (ℕ × ℕ)) (e : EndlessView) (h : Option Holder) → AreKept vs es → length vs < lock_limit → IsKeptRing e → is_settled (state_of e).ring.values ≡ true → AreKept (vs ++ record { ring = e; queue = []; holder = h } ∷ []) es
kept_push vs es e h k room r s =
    let v : LockView = record { ring = e; queue = []; holder = h } in
    let right = right_view e h r s in
    let ls : locks_of (vs ++ v ∷ []) ≡ locks_of vs ++ lock_of v ∷ [] = map-append lock_of vs (v ∷ []) in record {
      right = subst (λ (x : List Lock). AreRight x) (sym ls) (right_push (locks_of vs) (lock_of v) k.right right refl);
      few = let n = length-append vs (v ∷ []) in omega arith;
      each = λ i w f. elim (get_push vs v i w f) [
        | inl p ↦ k.each i w p
        | inr p ↦ subst (λ (x : LockView). IsKeptLock x) (sym p) (record { ring = r; room = omega arith })
      ];
      waits = subst (λ (x : List Lock). AreWaits x es) (sym ls) (waits_more (locks_of vs) (lock_of v) k.right right refl es k.waits);
    }

-- no locks
pub kept_none : (es : List (ℕ × ℕ)) → ((c : ℕ) → lock_in es c ≡ None) → AreKept [] es
kept_none es h = record {
  right = record {
    each = λ i l e. absurd (no_lock l e);
    once = λ c i j l m e f s t. absurd (no_lock l e);
    ends = λ c. (1, refl);
  };
  few = omega arith;
  each = λ i v e. absurd (none v e);
  waits = record { there = λ c i e. absurd (nat i (sym (h c) ∙ e)); known = λ c i l e s. absurd (no_lock l e) };
}
  where
    no_lock : (l : Lock) → ◌≡◌ {A = Option Lock} None (Some l) → ⊥
    no_lock l e = cc

    none : (v : LockView) → ◌≡◌ {A = Option LockView} None (Some v) → ⊥
    none v e = cc

    nat : (i : ℕ) → ◌≡◌ {A = Option ℕ} None (Some i) → ⊥
    nat i e = cc
