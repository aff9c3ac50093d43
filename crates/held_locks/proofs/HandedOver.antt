-- Locks stay right where an open hold is handed over: nobody waits for the lock, so nobody waits for its client.
use Rattle.std.proofs.Common.{◌≡◌, ℕ, zero, suc, Bool, false, List, [], ◌∷◌, length, refl, sym, ◌∙◌, ap, subst, inl, inr, arith, Option, Some}
use Rattle.std.specs.Prelude.{if◌then◌else◌, slice_get, slice_set, option_map}
use Rattle.std.proofs.lemmas.Bool.{both_ways}
use Rattle.std.proofs.lemmas.List.{map-set, length-set}
use Rattle.std.proofs.lemmas.Option.{slice_get-map}
use Rattle.held_locks.specs.declared.answers.Waiter.{Waiter}
use Rattle.held_locks.specs.declared.handing.Handover.{Handover}
use Rattle.held_locks.specs.Queues.{Lock, stands, waits_for, holder_of}
use Rattle.held_locks.specs.Promises.{AreRight, IsRightLock}
use Rattle.held_locks.specs.Waiting.{AreWaits}
use Rattle.held_locks.specs.Kept.{LockView, lock_of, locks_of, IsKeptLock, AreKept}
use Rattle.held_locks.specs.declared.answers.Holder.{Holder}
use Rattle.held_locks.specs.Locks.{restarted}
use Rattle.held_locks.specs.Handed.{IsOpen, handed, IsHanded, HoldsAreHandedBack}
use Rattle.held_locks.specs.Parts.{Unchanged}
use Rattle.held_locks.proofs.Standing.{get_set}
use Rattle.held_locks.proofs.Circles.{Same, ends_kept, once_kept}
use Rattle.held_locks.proofs.Lifting.{waits_changed}

pub some_is : {X : Type 0} (x y : X) → ◌≡◌ {A = Option X} (Some x) (Some y) → x ≡ y
some_is x y e = cc

-- what a client waits for that is neither here before nor here after the write
waits_set : (ls : List Lock) (i : ℕ) (l m : Lock) (c : ℕ) → slice_get ls i ≡ Some l → stands c l.queue ≡ false → stands c m.queue ≡ false → waits_for (slice_set ls i m) c ≡ waits_for ls c
waits_set [] i l m c e s t = refl
waits_set (x ∷ ls) zero l m c e s t =
    let here : x ≡ l = some_is x l e in
    let u : stands c x.queue ≡ false = subst (λ (y : Lock). stands c y.queue ≡ false) (sym here) s in
    ap (λ (b : Bool). if b then Some m else waits_for ls c) t ∙ sym (ap (λ (b : Bool). if b then Some x else waits_for ls c) u)
waits_set (x ∷ ls) (suc i) l m c e s t = ap (λ (w : Option Lock). if stands c x.queue then Some x else w) (waits_set ls i l m c e s t)

module _ (ls : List Lock) (i : ℕ) (l m : Lock) (r : AreRight ls) (at : slice_get ls i ≡ Some l) (is : IsRightLock m) (before : l.queue ≡ []) (behind : m.queue ≡ []) where
  nobody : (queue : List Waiter) (c : ℕ) → queue ≡ [] → stands c queue ≡ false
  nobody queue c e = ap (λ (x : List Waiter). stands c x) e

  pub right_set : AreRight (slice_set ls i m)
  right_set = record {
    each = λ j x e. elim (get_set ls i j m l x at e) [
      | inl p ↦ subst (λ (y : Lock). IsRightLock y) (sym p.1) is
      | inr p ↦ r.each j x p.1
    ];
    once = once_kept ls i l m r.once at (λ c s. absurd (both_ways (stands c m.queue) (nobody m.queue c behind) s));
    ends = λ c.
        let e = r.ends c in
        ends_kept ls (slice_set ls i m) (λ d. Same (ap holder_of (waits_set ls i l m d at (nobody l.queue d before) (nobody m.queue d behind)))) e.0 (Some c) e.1;
  }

module _ (vs ws : List LockView) (es : List (ℕ × ℕ)) (h : Handover) (k : AreKept vs es) (is : IsHanded vs ws h) where
  new : LockView
  new = handed is.lock h

  l : Lock
  l = lock_of is.lock

  m : Lock
  m = lock_of (handed is.lock h)

  there : slice_get (locks_of vs) h.lock ≡ Some (lock_of is.lock)
  there = slice_get-map lock_of vs h.lock ∙ ap (λ (x : Option LockView). option_map lock_of x) is.there

  was : IsRightLock (lock_of is.lock)
  was = k.right.each h.lock (lock_of is.lock) there

  right_lock : IsRightLock (lock_of (handed is.lock h))
  right_lock = record { ring = was.ring; settled = was.settled; held = λ _. is.held.free; apart = was.apart }

  right : AreRight (slice_set (locks_of vs) h.lock (lock_of (handed is.lock h)))
  right = right_set (locks_of vs) h.lock (lock_of is.lock) (lock_of (handed is.lock h)) k.right there right_lock is.held.free is.held.free

  behind : locks_of (slice_set vs h.lock (handed is.lock h)) ≡ slice_set (locks_of vs) h.lock (lock_of (handed is.lock h))
  behind = map-set lock_of vs h.lock (handed is.lock h)

  kept_set : AreKept (slice_set vs h.lock (handed is.lock h)) es
  kept_set = record {
    right = subst (λ (x : List Lock). AreRight x) (sym behind) right;
    few = let n : length (slice_set vs h.lock (handed is.lock h)) ≡ length vs = length-set vs h.lock (handed is.lock h) in let few = k.few in omega arith;
    each = λ j x e. elim (get_set vs h.lock j (handed is.lock h) is.lock x is.there e) [
      | inl p ↦
          let old = k.each h.lock is.lock is.there in
          subst (λ (y : LockView). IsKeptLock y) (sym p.1) (record { ring = old.ring; room = old.room })
      | inr p ↦ k.each j x p.1
    ];
    waits = subst (λ (x : List Lock). AreWaits x es) (sym behind)
        (waits_changed (locks_of vs) h.lock (lock_of is.lock) (lock_of (handed is.lock h)) es es k.right.once right.once there k.waits was.apart (Unchanged refl refl));
  }

  pub kept_handed : AreKept ws es
  kept_handed = subst (λ (x : List LockView). AreKept x es) (sym is.new_is) kept_set

-- ---- a hold that is handed back

handed_back : (l : Lock) (v : LockView) (h : Handover) → l.holder ≡ Some (record { client = h.client; token = h.token }) → lock_of v ≡ restarted l → IsOpen v h.token × (lock_of (handed v h) ≡ record l { queue = [] })
handed_back l v h held same =
    let open_hold : v.holder ≡ Some (record { client = 0; token = h.token }) = ap (λ (x : Lock). x.holder) same ∙ ap (λ (x : Option Holder). option_map (λ (y : Holder). record { client = 0; token = y.token }) x) held in (
      record { held = open_hold; free = ap (λ (x : Lock). x.queue) same },
      λ i. record { ring = (ap (λ (x : Lock). x.ring) same) i; queue = (ap (λ (x : Lock). x.queue) same) i; holder = (sym held) i },
    )

pub holds_are_handed_back : HoldsAreHandedBack
holds_are_handed_back l old v h held same token client =
    handed_back l v h (held ∙ (λ i. Some (record { client = (sym client) i; token = (sym token) i }))) same
