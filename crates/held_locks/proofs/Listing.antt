-- The locks that a client holds or waits for, in order.
use Rattle.std.proofs.Common.{◌≡◌, ℕ, zero, suc, ◌≤◌, true, List, [], ◌∷◌, ◌++◌, length, length-append, eqb, refl, sym, ◌∙◌, ap, subst, inl, inr, arith, Option, Some, None}
use Rattle.std.specs.Prelude.{slice_get, slice_set, option_map, ◌⊎◌}
use Rattle.std.specs.List.Sorted.{IsPermutation, IsSorted}
use Rattle.std.specs.Ordering.{nat_cmp}
use Rattle.std.proofs.lemmas.Bool.{cases_eq, eqb-true, eq-eqb, both_ways, false≢true}
use Rattle.std.proofs.lemmas.List.{length-map, length-set}
use Rattle.std.proofs.lemmas.List.Sorted.{Contains-permutation, IsPermutation-sym, IsNonDecreasingBy-from_sort}
use Rattle.std.proofs.lemmas.Map.Keys.{IsDistinct-IsPermutation, IsStrictlyIncreasing-from_distinct, sorted_from_strictly_increasing}
use Rattle.std.proofs.lemmas.Option.{slice_get_within, slice_get-map}
use Rattle.held_locks.specs.declared.answers.Holder.{Holder}
use Rattle.held_locks.specs.declared.parts.LockParts.{LockParts}
use Rattle.held_locks.specs.Queues.{Lock, stands, is_held_by, client_of}
use Rattle.held_locks.specs.Locks.{Ask, Asked, step, step_at, turn}
use Rattle.held_locks.specs.Waiting.{lock_in}
use Rattle.held_locks.specs.Handed.{handed, IsHanded}
use Rattle.held_locks.specs.declared.answers.Answers.{Answers}
use Rattle.held_locks.specs.declared.handing.Handover.{Handover}
use Rattle.held_locks.specs.Kept.{LockView, lock_of, locks_of, AreKept, IsDone, IsAnswer}
use Rattle.held_locks.specs.Parts.{view_of, views_of}
use Rattle.held_locks.specs.Holding.{Has, Differ, IsHeldIn, AreFound, with_awaited, AreHolders, AreWhole, IsSameBut, IsAt, AreLocksOf}
use Rattle.held_locks.proofs.Standing.{get_set_same, get_set_other}
use Rattle.held_locks.proofs.Adding.{get_front}
use Rattle.held_locks.proofs.Lifting.{held_out, view_there}
use Rattle.held_locks.proofs.Linking.{same_nat, there_is, one_longer}
use Rattle.held_locks.proofs.Gathering.{distinct, flips, has_contains, contains_has, has_front, has_last, has_push, differ_push}

-- ---- the holder of a lock

holds_it : (c : ℕ) (h : Option Holder) → client_of h ≡ Some c → is_held_by c h ≡ true
holds_it c None e = absurd (none_some c e)
  where
    none_some : (c : ℕ) → ◌≡◌ {A = Option ℕ} None (Some c) → ⊥
    none_some c e = cc
holds_it c (Some h) e = eq-eqb h.client c (same_nat h.client c e)

held_client : (c : ℕ) (h : Option Holder) → is_held_by c h ≡ true → client_of h ≡ Some c
held_client c None e = absurd (false≢true e)
held_client c (Some h) e = ap (λ (x : ℕ). Some x) (eqb-true h.client c e)

some_is : (x y : Option ℕ) → ◌≡◌ {A = Option (Option ℕ)} (Some x) (Some y) → x ≡ y
some_is x y e = cc

some_lock : (x y : Lock) → ◌≡◌ {A = Option Lock} (Some x) (Some y) → x ≡ y
some_lock x y e = cc

same_view : (x y : LockView) → ◌≡◌ {A = Option LockView} (Some x) (Some y) → x ≡ y
same_view x y e = cc

none_nat : (i : ℕ) → ◌≡◌ {A = Option ℕ} None (Some i) → ⊥
none_nat i e = cc

lock_there : (vs : List LockView) (i : ℕ) (v : LockView) → slice_get vs i ≡ Some v → slice_get (locks_of vs) i ≡ Some (lock_of v)
lock_there vs i v e = slice_get-map lock_of vs i ∙ ap (λ (x : Option LockView). option_map lock_of x) e

-- the lock that has changed has the holder that was noted
pub follow_put : (vs : List LockView) (ps : List LockParts) (clients : List (Option ℕ)) (i : ℕ) (p : LockParts) → IsSameBut i vs (views_of ps) → AreHolders vs clients → slice_get ps i ≡ Some p → AreHolders (views_of ps) (slice_set clients i (client_of p.holder))
follow_put vs ps clients i p s h at =
    let l = slice_get_within ps i p at in
    let size : length (views_of ps) ≡ length ps = length-map ps view_of in
    let many = h.many in
    let more = s.many in
    let o = there_is clients i (omega (arith, l, size, many, more)) in record {
      many = length-set clients i (client_of p.holder) ∙ h.many ∙ sym s.many;
      each = λ j v e. elim (cases_eq j i) [
        | inl q ↦
            let same : v ≡ view_of p = same_view v (view_of p) (sym e ∙ ap (λ (n : ℕ). slice_get (views_of ps) n) q ∙ view_there ps i p at) in
            ap (λ (n : ℕ). slice_get (slice_set clients i (client_of p.holder)) n) q ∙ get_set_same clients i (client_of p.holder) o.0 o.1 ∙ ap (λ (x : LockView). Some (client_of x.holder)) (sym same)
        | inr n ↦ get_set_other clients i j (client_of p.holder) n ∙ h.each j v (sym (s.others j n) ∙ e)
      ];
    }

-- and where there is no such lock none has changed
pub follow_past : (vs : List LockView) (ps : List LockParts) (clients : List (Option ℕ)) (i : ℕ) → length ps ≤ i → IsSameBut i vs (views_of ps) → AreHolders vs clients → AreHolders (views_of ps) clients
follow_past vs ps clients i l s h = record {
  many = h.many ∙ sym s.many;
  each = λ j v e.
      let w = slice_get_within (views_of ps) j v e in
      let size : length (views_of ps) ≡ length ps = length-map ps view_of in
      h.each j v (sym (s.others j (λ q. omega (arith, q, w, size, l))) ∙ e);
}

-- ---- what a call changes

pub step_many : (ls : List Lock) (c i : ℕ) (ask : Ask) → length (step ls (Asked c i ask)).locks ≡ length ls
step_many ls c i ask = by (slice_get ls i)
  where
    by : (o : Option Lock) → length (step_at ls c i ask o).locks ≡ length ls
    by None = refl
    by (Some l) = length-set ls i (turn ls l c ask).lock

pub done_same : (old new : List LockView) (c i : ℕ) (ask : Ask) (r : Answers) → IsDone old new c i ask r → IsSameBut i old new
done_same old new c i ask r d = record {
  many = sym (length-map new lock_of) ∙ ap (λ (x : List Lock). length x) d.locks ∙ step_many (locks_of old) c i ask ∙ length-map old lock_of;
  others = d.others;
}

pub nothing_same : (old new : List LockView) (i : ℕ) → new ≡ old → IsSameBut i old new
nothing_same old new i e = record { many = ap (λ (x : List LockView). length x) e; others = λ j n. ap (λ (x : List LockView). slice_get x j) e }

pub answer_same : (old new : List LockView) (c i : ℕ) (ask : Ask) (r : Answers) → IsAnswer old new c i ask r → IsSameBut i old new
answer_same old new c i ask r (inl d) = done_same old new c i ask r d
answer_same old new c i ask r (inr d) = nothing_same old new i d.same

pub handed_same : (old new : List LockView) (h : Handover) → IsHanded old new h → IsSameBut h.lock old new
handed_same old new h d = subst (λ (x : List LockView). IsSameBut h.lock old x) (sym d.new_is) (record {
  many = length-set old h.lock (handed d.lock h);
  others = λ j n. get_set_other old h.lock j (handed d.lock h) n;
})

-- as many holders as there are locks
pub as_many : (ps qs rs : List LockParts) (clients : List (Option ℕ)) (i : ℕ) → rs ≡ qs → AreHolders (views_of ps) clients → IsSameBut i (views_of ps) (views_of qs) → length clients ≡ length rs
as_many ps qs rs clients i e h s = h.many ∙ sym s.many ∙ length-map qs view_of ∙ ap (λ (x : List LockParts). length x) (sym e)

-- and after the change they are known again
pub holders_known : (ps qs rs : List LockParts) (clients later : List (Option ℕ)) (i : ℕ) → rs ≡ qs → AreHolders (views_of ps) clients → IsSameBut i (views_of ps) (views_of qs) →
    ((vs : List LockView) → IsSameBut i vs (views_of rs) → AreHolders vs clients → AreHolders (views_of rs) later) → AreHolders (views_of qs) later
holders_known ps qs rs clients later i e h s f =
    subst (λ (x : List LockParts). AreHolders (views_of x) later) e (f (views_of ps) (subst (λ (x : List LockParts). IsSameBut i (views_of ps) (views_of x)) (sym e) s) h)

pub whole_again : (ps qs rs : List LockParts) (es fs : List (ℕ × ℕ)) (clients later : List (Option ℕ)) (room i : ℕ) → rs ≡ qs → AreWhole (views_of ps) es clients room → AreKept (views_of qs) fs → IsSameBut i (views_of ps) (views_of qs) →
    ((vs : List LockView) → IsSameBut i vs (views_of rs) → AreHolders vs clients → AreHolders (views_of rs) later) → AreWhole (views_of qs) fs later room
whole_again ps qs rs es fs clients later room i e w k s f = record {
  kept = k;
  holders = holders_known ps qs rs clients later i e w.holders s f;
  room = let n = s.many in let l = w.room in omega arith;
}

-- a lock more
pub holder_more : (ps : List LockParts) (clients : List (Option ℕ)) (p : LockParts) → AreHolders (views_of ps) clients → AreHolders (views_of (ps ++ p ∷ [])) (slice_set (clients ++ None ∷ []) (length ps) (client_of p.holder))
holder_more ps clients p h =
    let size : length (views_of ps) ≡ length ps = length-map ps view_of in
    let many : length clients ≡ length ps = h.many ∙ size in
    let last : slice_get (clients ++ None ∷ []) (length ps) ≡ Some None = ap (λ (n : ℕ). slice_get (clients ++ None ∷ []) n) (sym many) ∙ get_end clients None in record {
      many =
          let a = length-set (clients ++ None ∷ []) (length ps) (client_of p.holder) in
          let b = one_longer clients None in
          let d = length-map (ps ++ p ∷ []) view_of in
          let e = length-append ps (p ∷ []) in
          omega arith;
      each = λ i v e. elim (view_more ps p i v e) [
        | inl r ↦
            let l = slice_get_within (views_of ps) i v r in
            get_set_other (clients ++ None ∷ []) (length ps) i (client_of p.holder) (λ q. omega (arith, q, l, size)) ∙ get_front clients None i (client_of v.holder) (h.each i v r)
        | inr r ↦
            ap (λ (n : ℕ). slice_get (slice_set (clients ++ None ∷ []) (length ps) (client_of p.holder)) n) r.0
            ∙ get_set_same (clients ++ None ∷ []) (length ps) (client_of p.holder) None last
            ∙ ap (λ (x : LockView). Some (client_of x.holder)) (sym r.1)
      ];
    }
  where
    get_end : (xs : List (Option ℕ)) (x : Option ℕ) → slice_get (xs ++ x ∷ []) (length xs) ≡ Some x
    get_end [] x = refl
    get_end (y ∷ xs) x = get_end xs x

    view_more : (ps : List LockParts) (p : LockParts) (i : ℕ) (v : LockView) → slice_get (views_of (ps ++ p ∷ [])) i ≡ Some v → (slice_get (views_of ps) i ≡ Some v) ⊎ ((i ≡ length ps) × (v ≡ view_of p))
    view_more [] p zero v e = inr (refl, same_view v (view_of p) (sym e))
    view_more [] p (suc i) v e = absurd (no v e)
      where
        no : (v : LockView) → ◌≡◌ {A = Option LockView} None (Some v) → ⊥
        no v e = cc
    view_more (q ∷ ps) p zero v e = inl e
    view_more (q ∷ ps) p (suc i) v e = elim (view_more ps p i v e) [
      | inl r ↦ inl r
      | inr r ↦ inr (ap suc r.0, r.1)
    ]

pub holder_none : AreHolders [] []
holder_none = record { many = refl; each = λ i v e. absurd (no v e) }
  where
    no : (v : LockView) → ◌≡◌ {A = Option LockView} None (Some v) → ⊥
    no v e = cc

-- the same locks
pub same_many : (vs ws : List LockView) → locks_of ws ≡ locks_of vs → length ws ≡ length vs
same_many vs ws e = sym (length-map ws lock_of) ∙ ap (λ (x : List Lock). length x) e ∙ length-map vs lock_of

pub holders_same : (vs ws : List LockView) (clients : List (Option ℕ)) → AreHolders vs clients → locks_of ws ≡ locks_of vs → AreHolders ws clients
holders_same vs ws clients h e = record {
  many = h.many ∙ sym (same_many vs ws e);
  each = λ i w at.
      let there : slice_get (locks_of vs) i ≡ Some (lock_of w) = ap (λ (x : List Lock). slice_get x i) (sym e) ∙ lock_there ws i w at in
      let l = slice_get_within (locks_of vs) i (lock_of w) there in
      let size : length (locks_of vs) ≡ length vs = length-map vs lock_of in
      let v = there_is vs i (omega (arith, l, size)) in
      let same : lock_of v.0 ≡ lock_of w = some_lock (lock_of v.0) (lock_of w) (sym (lock_there vs i v.0 v.1) ∙ there) in
      h.each i v.0 v.1 ∙ ap (λ (x : Lock). Some (client_of x.holder)) same;
}

-- ---- in order

module _ (vs : List LockView) (es : List (ℕ × ℕ)) (clients : List (Option ℕ)) (c : ℕ) (k : AreKept vs es) (h : AreHolders vs clients) where
  held_at : (i : ℕ) → IsHeldIn clients i c → (v : LockView) × ((slice_get vs i ≡ Some v) × (is_held_by c v.holder ≡ true))
  held_at i e =
      let l = slice_get_within clients i (Some c) e in
      let many = h.many in
      let v = there_is vs i (omega (arith, l, many)) in
      (v.0, (v.1, holds_it c v.0.holder (some_is (client_of v.0.holder) (Some c) (sym (h.each i v.0 v.1) ∙ e))))

  awaited_at : (i : ℕ) → lock_in es c ≡ Some i → (v : LockView) × ((slice_get vs i ≡ Some v) × (stands c v.queue ≡ true))
  awaited_at i e =
      let t = k.waits.there c i e in
      let l = slice_get_within (locks_of vs) i t.0 t.1 in
      let many : length (locks_of vs) ≡ length vs = length-map vs lock_of in
      let v = there_is vs i (omega (arith, l, many)) in
      let same : t.0 ≡ lock_of v.0 = some_lock t.0 (lock_of v.0) (sym t.1 ∙ lock_there vs i v.0 v.1) in
      (v.0, (v.1, subst (λ (x : Lock). stands c x.queue ≡ true) same t.2))

  -- what a client waits for it does not hold
  apart : (i : ℕ) → IsHeldIn clients i c → lock_in es c ≡ Some i → ⊥
  apart i e f =
      let v = held_at i e in
      let w = awaited_at i f in
      let same : w.0 ≡ v.0 = same_view w.0 v.0 (sym w.1.0 ∙ v.1.0) in
      both_ways (stands c v.0.queue) (held_out (locks_of vs) i (lock_of v.0) c v.0.holder k.right (lock_there vs i v.0 v.1.0) refl v.1.1) (subst (λ (x : LockView). stands c x.queue ≡ true) same w.1.1)

  module _ (found : List ℕ) (f : AreFound clients c found) where
    differ_all : (w : Option ℕ) → lock_in es c ≡ w → Differ (with_awaited found w)
    differ_all None e = f.differ
    differ_all (Some i) e = differ_push i found f.differ (λ x. apart i (f.held i x) e)

    at_all : (w : Option ℕ) → lock_in es c ≡ w → (i : ℕ) → Has i (with_awaited found w) → (v : LockView) × ((slice_get vs i ≡ Some v) × IsAt c v)
    at_all None e i x = let v = held_at i (f.held i x) in (v.0, (v.1.0, inl v.1.1))
    at_all (Some j) e i x = elim (has_push i j found x) [
      | inl p ↦ let v = held_at i (f.held i p) in (v.0, (v.1.0, inl v.1.1))
      | inr p ↦ let v = awaited_at i (e ∙ ap (λ (n : ℕ). Some n) (sym p)) in (v.0, (v.1.0, inr v.1.1))
    ]

    held_among : (w : Option ℕ) (i : ℕ) → Has i found → Has i (with_awaited found w)
    held_among None i x = x
    held_among (Some j) i x = has_front i j found x

    awaited_among : (w : Option ℕ) (i : ℕ) → w ≡ Some i → Has i (with_awaited found w)
    awaited_among None i e = absurd (none_nat i e)
    awaited_among (Some j) i e = subst (λ (n : ℕ). Has i (found ++ n ∷ [])) (sym (same_nat j i e)) (has_last i found)

    among_all : (w : Option ℕ) → lock_in es c ≡ w → (i : ℕ) (v : LockView) → slice_get vs i ≡ Some v → IsAt c v → Has i (with_awaited found w)
    among_all w e i v at (inl x) = held_among w i (f.all i (h.each i v at ∙ ap (λ (o : Option ℕ). Some o) (held_client c v.holder x)))
    among_all w e i v at (inr x) = awaited_among w i (sym e ∙ k.waits.known c i (lock_of v) (lock_there vs i v at) x)

    pub in_order : (w : Option ℕ) (order : List ℕ) → lock_in es c ≡ w → IsPermutation (with_awaited found w) order → IsSorted nat_cmp order → AreLocksOf c vs order
    in_order w order e p s =
        let all = with_awaited found w in record {
          rising = sorted_from_strictly_increasing order (IsStrictlyIncreasing-from_distinct order (IsNonDecreasingBy-from_sort (λ x. x) order s) (IsDistinct-IsPermutation eqb flips all order p (distinct all (differ_all w e))));
          within = λ i x. at_all w e i (contains_has i all (Contains-permutation order all i (IsPermutation-sym all order p) x));
          all = λ i v at x. Contains-permutation all order i p (has_contains i all (among_all w e i v at x));
        }
