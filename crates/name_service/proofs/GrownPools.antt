-- Fresh rings in the pool, one after the other.
use Rattle.std.proofs.Common.{◌≡◌, ℕ, zero, suc, ◌+◌, ◌-◌, ◌^◌, ◌<◌, ◌≤◌, ◌⊎◌, false, List, [], ◌∷◌, ◌++◌, length, inl, inr, refl, sym, ap, subst, ◌∙◌, arith}
use Rattle.std.specs.Prelude.{Result, Ok, Err, IfOk}
use Rattle.std.proofs.lemmas.Bool.{or_parts, or_from, le-ltb}
use Rattle.std.proofs.lemmas.List.{length-append, length-map}
use Rattle.ring_model.specs.Limits.{machine_limit, event_limit}
use Rattle.ring_state.specs.Sizes.{Size}
use Rattle.endless_ring.specs.Endless.{EndlessView}
use Rattle.held_locks.specs.declared.answers.Waiter.{Waiter}
use Rattle.held_locks.specs.Kept.{LockView, lock_of, state_of, lock_limit, IsKeptRing}
use Rattle.held_locks.specs.Opened.{open_in, holder_after}
use Rattle.fresh_rings.specs.Fresh.{IsFreshRing, pool_ring}
use Rattle.lock_names.specs.declared.growing.NotGrown.TheVariants as not_grown
use Rattle.lock_names.specs.Names.{Named}
use Rattle.lock_names.specs.Kept.{NamedView, top_limit}
use Rattle.lock_names.specs.Grown.{AreNextNames, CannotGrow}
use Rattle.lock_journal.specs.Due.{is_short, has_short}
use Rattle.name_service.specs.Growth.{pool_of, HasFreshRing, AreGrown, CannotAdd, IsPoolWanted, IsUngrown}
use Rattle.name_service.proofs.FreshRings.{added_grants, added_events, no_room}

-- ---- one ring more

push_long : (vs : List LockView) (v : LockView) → length (vs ++ v ∷ []) ≡ length vs + 1
push_long vs v = length-append vs (v ∷ [])

pub fresh_long : (size : Size) (old new : NamedView) → HasFreshRing size old new → length new.locks ≡ length old.locks + 1
fresh_long size old new g =
    let a = g.added.added in
    ap (λ (vs : List LockView). length vs) a.added ∙ push_long old.locks (record { ring = a.ring; queue = []; holder = holder_after (open_in g.ring) })

pub fresh_top : (size : Size) (old new : NamedView) → HasFreshRing size old new → new.top ≡ old.top
fresh_top size old new g =
    let none : (state_of g.added.added.ring).grants ≡ 0 = added_grants (pool_ring size) g.ring old.locks new.locks g.kept g.fresh g.added.added in
    let sum : new.top ≡ old.top + (state_of g.added.added.ring).grants = ap (λ (s : Named). s.top) g.added.named in
    omega (arith, none, sum)

-- a lock of a ring without events, for which nobody waits, is not short
empty_short : (v : LockView) → length v.ring.ring.book.history ≡ 0 → v.queue ≡ [] → is_short v ≡ false
empty_short v h q =
    let line : length v.queue ≡ 0 = ap (λ (ws : List Waiter). length ws) q in
    le-ltb event_limit (length v.ring.ring.book.history + (length v.queue + (machine_limit + 1))) (omega (arith, h, line))

push_short : (vs : List LockView) (v : LockView) → has_short vs ≡ false → is_short v ≡ false → has_short (vs ++ v ∷ []) ≡ false
push_short [] v e f = or_from (is_short v) false f refl
push_short (w ∷ vs) v e f =
    let p = or_parts (is_short w) (has_short vs) e in
    or_from (is_short w) (has_short (vs ++ v ∷ [])) p.0 (push_short vs v p.1 f)

pub fresh_short : (size : Size) (old new : NamedView) → HasFreshRing size old new → has_short old.locks ≡ false → has_short new.locks ≡ false
fresh_short size old new g e =
    let a = g.added.added in
    let v : LockView = record { ring = a.ring; queue = []; holder = holder_after (open_in g.ring) } in
    ap (λ (vs : List LockView). has_short vs) a.added ∙ push_short old.locks v e (empty_short v (added_events (pool_ring size) g.ring old.locks new.locks g.kept g.fresh a) refl)

-- it cannot be added
pub not_fresh : (size : Size) (old : NamedView) (e : EndlessView) → IsKeptRing e → IsFreshRing (pool_ring size) e → CannotGrow old e not_grown.Full → (lock_limit ≤ length old.locks) ⊎ (top_limit ≤ old.top)
not_fresh size old e k f w = elim w [
  | inl p ↦ inl (no_room (pool_ring size) e old.locks k f p)
  | inr p ↦
      let none : (state_of p.1.ring).grants ≡ 0 = added_grants (pool_ring size) e old.locks p.0 k f p.1 in
      let far : 2 ^ 63 ≤ old.top + (state_of p.1.ring).grants = p.2 in
      let goal : 2 ^ 63 ≤ old.top = omega (arith, none, far) in
      inr goal
]

-- ---- many

pub record IsGrownBy (n : ℕ) (old new : NamedView) : Type 0 where
  pub many : length new.locks ≡ length old.locks + n
  pub top : new.top ≡ old.top
  pub short : has_short old.locks ≡ false → has_short new.locks ≡ false

pub grown_by : (size : Size) (old : NamedView) (n : ℕ) (new : NamedView) → AreGrown size old n new → IsGrownBy n old new
grown_by size old zero new g =
    let none : length new.locks ≡ length old.locks = ap (λ (v : NamedView). length v.locks) g in
    record {
      many = omega (arith, none);
      top = ap (λ (v : NamedView). v.top) g;
      short = λ e. ap (λ (v : NamedView). has_short v.locks) g ∙ e;
    }
grown_by size old (suc n) new g =
    let before = grown_by size old n g.0 g.1 in
    let some = before.many in
    let one = fresh_long size g.0 new g.2 in
    record {
      many = omega (arith, some, one);
      top = fresh_top size g.0 new g.2 ∙ before.top;
      short = λ e. fresh_short size g.0 new g.2 (before.short e);
    }

pub one_more : (size : Size) (old : NamedView) (n next : ℕ) (mid new : NamedView) → next ≡ suc n → AreGrown size old n mid → HasFreshRing size mid new → AreGrown size old next new
one_more size old n next mid new e g f = subst (λ (k : ℕ). AreGrown size old k new) (sym e) (mid, g, f)

-- they cannot all be added
pub cannot_add : (size : Size) (old : NamedView) (n more : ℕ) (mid : NamedView) → n < more → AreGrown size old n mid → (lock_limit ≤ length mid.locks) ⊎ (top_limit ≤ mid.top) → CannotAdd old more
cannot_add size old n more mid lt g w =
    let by = grown_by size old n mid g in
    let many = by.many in (
      omega (arith, lt),
      elim w [
        | inl p ↦
            let far : 1000000 ≤ length mid.locks = p in
            let goal : 1000000 < length old.locks + more = omega (arith, many, far, lt) in
            inl goal
        | inr p ↦ inr (subst (λ (t : ℕ). top_limit ≤ t) by.top p)
      ],
    )

-- ---- the next segment

pub next_long : (old new : NamedView) → AreNextNames old new → length new.locks ≡ length old.locks
next_long old new n = sym (length-map new.locks lock_of) ∙ (ap (λ (s : Named). length s.locks) n.named ∙ length-map old.locks lock_of)

pub next_cannot_add : (old mid : NamedView) (more : ℕ) → AreNextNames old mid → CannotAdd mid more → CannotAdd old more
next_cannot_add old mid more n w =
    let many = next_long old mid n in
    let top : mid.top ≡ old.top = ap (λ (s : Named). s.top) n.named in (
      w.0,
      elim w.1 [
        | inl p ↦
            let far : 1000000 < length mid.locks + more = p in
            let goal : 1000000 < length old.locks + more = omega (arith, many, far) in
            inl goal
        | inr p ↦ inr (subst (λ (t : ℕ). top_limit ≤ t) top p)
      ],
    )

pub ungrown : (most : ℕ) (old mid : NamedView) (rings more : ℕ) → IsPoolWanted most old rings → more ≡ rings - pool_of old → AreNextNames old mid → CannotAdd mid more → IsUngrown most old
ungrown most old mid rings more w e n c = record {
  rings = rings;
  wanted = w;
  why = subst (λ (k : ℕ). CannotAdd old k) e (next_cannot_add old mid more n c);
}

pub if_ok : {T E : Type 0} (r : Result T E) (A B : T → Type 0) → IfOk r A → ((x : T) → A x → B x) → IfOk r B
if_ok (Ok x) A B a f = f x a
if_ok (Err e) A B a f = tt
