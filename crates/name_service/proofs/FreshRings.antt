-- A fresh ring is added as it is: it is settled, and has no events.
use Rattle.std.proofs.Common.{◌≡◌, ℕ, ◌+◌, ◌-◌, ◌<◌, ◌≤◌, true, List, [], length, map, get_or, replicate, inl, inr, sym, ap, subst, ◌∙◌, arith}
use Rattle.std.proofs.lemmas.Bool.{eq-eqb}
use Rattle.std.proofs.lemmas.List.{length-replicate, get_or-replicate}
use Rattle.ring_model.specs.Ring.{Ring, IsRing, ring_with, is_settled}
use Rattle.ring_model.specs.History.{State, opening, after}
use Rattle.ring_model.specs.Resources.{till}
use Rattle.ring_model.specs.declared.bases.Base.{Base}
use Rattle.ring_model.specs.declared.events.Event.{Event}
use Rattle.ring_model.proofs.Lead.{all_settled}
use Rattle.ring_book.specs.BookView.{BookView}
use Rattle.endless_ring.specs.Endless.{EndlessView, IsSameEndless}
use Rattle.held_locks.specs.Grants.{most_passes, repairs}
use Rattle.held_locks.specs.Locks.{Call}
use Rattle.held_locks.specs.Kept.{LockView, IsKeptRing, state_of, lock_limit}
use Rattle.held_locks.specs.Opened.{IsAdded, HaveNoRoom}
use Rattle.held_locks.proofs.Calls.{repairs_none, made_is}
use Rattle.fresh_rings.specs.Fresh.{Listed, IsFreshRing}

settled_zeros : (n : ℕ) → 1 ≤ n → is_settled (replicate n 0) ≡ true
settled_zeros n l =
    let many : length (replicate {A = ℕ} n 0) ≡ n = length-replicate n 0 in
    let first : get_or (replicate {A = ℕ} n 0) 0 0 ≡ 0 = get_or-replicate n 0 0 0 (omega (arith, l)) in
    let last : get_or (replicate {A = ℕ} n 0) (length (replicate {A = ℕ} n 0) - 1) 0 ≡ 0 = ap (λ (k : ℕ). get_or (replicate n 0) (k - 1) 0) many ∙ get_or-replicate n (n - 1) 0 0 (omega (arith, l)) in
    all_settled (replicate n 0) (omega (arith, l, many)) (eq-eqb (get_or (replicate n 0) (length (replicate {A = ℕ} n 0) - 1) 0) (get_or (replicate n 0) 0 0) (last ∙ sym first))
    (λ k lk. get_or-replicate n k 0 0 (omega (arith, lk, many)) ∙ sym first)

-- its state is that of its start
now_is : (l : Listed) (e : EndlessView) → IsKeptRing e → IsFreshRing l e → e.ring.book.now ≡ opening (ring_with l.k (replicate l.n 0)) 0
now_is l e k f =
    sym k.endless.ring.book.current
    ∙ (ap (λ (h : List Event). after till (opening e.ring.book.start 0) h) f.history
    ∙ ap (λ (r : Ring). opening r 0) f.start)

fresh_settled : (l : Listed) (e : EndlessView) → IsKeptRing e → IsFreshRing l e → is_settled (state_of e).ring.values ≡ true
fresh_settled l e k f =
    let two : 2 ≤ length e.ring.book.start.values = k.endless.ring.book.start_ring.ring.two in
    let many : length e.ring.book.start.values ≡ l.n = ap (λ (r : Ring). length r.values) f.start ∙ length-replicate l.n 0 in
    ap (λ (s : State ℕ). is_settled s.ring.values) (now_is l e k f) ∙ settled_zeros l.n (omega (arith, two, many))

fresh_grants : (l : Listed) (e : EndlessView) → IsKeptRing e → IsFreshRing l e → e.base.grants + e.ring.book.now.grants ≡ 0
fresh_grants l e k f =
    let before : e.base.grants ≡ 0 = ap (λ (b : Base). b.grants) f.base in
    let here : e.ring.book.now.grants ≡ 0 = ap (λ (s : State ℕ). s.grants) (now_is l e k f) in
    omega (arith, before, here)

-- the ring of the lock that is added is the same
added_same : (l : Listed) (e : EndlessView) (old new : List LockView) → IsKeptRing e → IsFreshRing l e → (a : IsAdded old new e) → IsSameEndless e a.ring
added_same l e old new k f a =
    let most : ℕ = most_passes (length e.ring.book.now.ring.values) in
    made_is e a.ring (map Call (repairs most (state_of e))) [] (ap (λ (x : List Event). map Call x) (repairs_none most (state_of e) (fresh_settled l e k f))) a.repaired

pub added_settled : (l : Listed) (e : EndlessView) (old new : List LockView) → IsKeptRing e → IsFreshRing l e → (a : IsAdded old new e) → is_settled (state_of a.ring).ring.values ≡ true
added_settled l e old new k f a = ap (λ (b : BookView ℕ). is_settled b.now.ring.values) (added_same l e old new k f a).ring.book ∙ fresh_settled l e k f

pub added_ring : (l : Listed) (e : EndlessView) (old new : List LockView) → IsKeptRing e → IsFreshRing l e → (a : IsAdded old new e) → IsRing (state_of a.ring).ring
added_ring l e old new k f a = subst (λ (b : BookView ℕ). IsRing b.now.ring) (sym (added_same l e old new k f a).ring.book) k.endless.ring.book.now_ring.ring

pub added_grants : (l : Listed) (e : EndlessView) (old new : List LockView) → IsKeptRing e → IsFreshRing l e → (a : IsAdded old new e) → (state_of a.ring).grants ≡ 0
added_grants l e old new k f a =
    let s = added_same l e old new k f a in
    let base : a.ring.base.grants ≡ e.base.grants = ap (λ (b : Base). b.grants) s.base in
    let now : a.ring.ring.book.now.grants ≡ e.ring.book.now.grants = ap (λ (b : BookView ℕ). b.now.grants) s.ring.book in
    let none = fresh_grants l e k f in
    let goal : a.ring.base.grants + a.ring.ring.book.now.grants ≡ 0 = omega (arith, base, now, none) in
    goal

pub added_events : (l : Listed) (e : EndlessView) (old new : List LockView) → IsKeptRing e → IsFreshRing l e → (a : IsAdded old new e) → length a.ring.ring.book.history ≡ 0
added_events l e old new k f a =
    let s = added_same l e old new k f a in
    ap (λ (b : BookView ℕ). length b.history) s.ring.book ∙ ap (λ (h : List Event). length h) f.history

-- there is no room for it only if there are as many locks as may be
pub no_room : (l : Listed) (e : EndlessView) (vs : List LockView) → IsKeptRing e → IsFreshRing l e → HaveNoRoom vs e → lock_limit ≤ length vs
no_room l e vs k f h = elim h [
  | inl p ↦ p
  | inr p ↦
      let none : length e.ring.book.history ≡ 0 = ap (λ (h : List Event). length h) f.history in
      let few : length e.ring.book.now.ring.values ≤ 1024 = k.endless.ring.book.now_ring.most_machines in
      let more : 4000000 < length e.ring.book.history + (length e.ring.book.now.ring.values - 1) = p in
      absurd (omega (arith, none, few, more))
]
