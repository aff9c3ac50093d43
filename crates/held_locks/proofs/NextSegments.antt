-- A lock continues over the next segment of its ring.
use Rattle.std.proofs.Common.{◌≡◌, ℕ, zero, suc, ◌+◌, ◌<◌, ◌≤◌, List, [], ◌∷◌, ◌++◌, map, length, take, get_or, refl, sym, ◌∙◌, ap, subst, inl, arith, Option, Some, None}
use Rattle.std.specs.Prelude.{slice_get, option_map}
use Rattle.std.proofs.lemmas.List.{take_more, map-append}
use Rattle.std.proofs.lemmas.Option.{slice_get-map, slice_get_read}
use Rattle.ring_model.specs.Ring.{Ring}
use Rattle.ring_model.specs.History.{State, opening, after}
use Rattle.ring_model.specs.Resources.{till}
use Rattle.ring_model.specs.Surveys.{granted_count}
use Rattle.ring_model.specs.declared.events.Event.{Event}
use Rattle.ring_model.specs.declared.events.Op.TheVariants as op
use Rattle.ring_model.specs.declared.events.Receipt.{Receipt}
use Rattle.ring_model.specs.declared.bases.Base.{Base}
use Rattle.ring_model.specs.Resources.{add_order}
use Rattle.ring_model.proofs.Shifts.{add_order-none, add_order-amount, grants_legal}
use Rattle.endless_ring.specs.Endless.{EndlessView, IsEndless, IsSameEndless, IsCalled, IsNextRing}
use Rattle.held_locks.specs.declared.answers.Waiter.{Waiter}
use Rattle.held_locks.specs.declared.parts.LockParts.{LockParts}
use Rattle.held_locks.specs.Queues.{Lock}
use Rattle.held_locks.specs.Grants.{carried, other_machine}
use Rattle.held_locks.specs.Locks.{Call, called}
use Rattle.held_locks.specs.Promises.{AreRight, IsRightLock, token_of, events_of, carries}
use Rattle.held_locks.specs.Kept.{LockView, state_of, lock_of, locks_of, lock_limit, IsKeptRing, IsKeptLock, AreKept, AreMade}
use Rattle.held_locks.specs.Parts.{view_of, views_of}
use Rattle.held_locks.specs.Cuts.{IsNextOf, IsNoNext, IsNextLock, AreNext, HaveNoNext}
use Rattle.held_locks.specs.Waiting.{AreWaits}
use Rattle.held_locks.specs.declared.answers.Refusal.{Refusal}
use Rattle.held_locks.proofs.Calls.{made_of_same, made_state, same_state, called_makes}
use Rattle.held_locks.proofs.Shown.{carries_nothing}
use Rattle.held_locks.proofs.Lifting.{view_there}

-- ---- the state where a segment begins

state_like : (r s : Ring) (c d g h : ℕ) → r ≡ s → c ≡ d → g ≡ h → ◌≡◌ {A = State ℕ} (record { ring = r; content = c; grants = g }) (record { ring = s; content = d; grants = h })
state_like r s c d g h e f k = ap (λ (x : Ring). record { ring = x; content = c; grants = g }) e ∙ ap (λ (x : ℕ). record { ring = s; content = x; grants = g }) f ∙ ap (λ (x : ℕ). record { ring = s; content = d; grants = x }) k

pub next_state : (old new : EndlessView) → IsEndless old → IsEndless new → IsNextRing old new → state_of new ≡ state_of old
next_state old new i j n =
    let h : List Event = old.ring.book.history in
    let now : after till (opening old.ring.book.start 0) h ≡ old.ring.book.now = i.ring.book.current in
    let fresh : new.ring.book.now ≡ opening new.ring.book.start 0 = sym j.ring.book.current ∙ ap (λ (x : List Event). after till (opening new.ring.book.start 0) x) n.history in
    let ring : new.ring.book.now.ring ≡ old.ring.book.now.ring = ap (λ (x : State ℕ). x.ring) fresh ∙ n.start in
    let content : new.ring.book.now.content ≡ 0 = ap (λ (x : State ℕ). x.content) fresh in
    let none : new.ring.book.now.grants ≡ 0 = ap (λ (x : State ℕ). x.grants) fresh in
    let count : (after till (opening old.ring.book.start 0) h).grants ≡ 0 + granted_count h = grants_legal till (opening old.ring.book.start 0) h i.ring.book.legal in
    let grants : (after till (opening old.ring.book.start 0) h).grants ≡ old.ring.book.now.grants = ap (λ (x : State ℕ). x.grants) now in
    let base : new.base.grants ≡ old.base.grants + granted_count h = ap (λ (x : Base). x.grants) n.base in
    let amount : new.base.amount ≡ add_order old.base.amount (after till (opening old.ring.book.start 0) h).content = ap (λ (x : Base). x.amount) n.base in
    let whole = ap (λ (x : ℕ). add_order new.base.amount x) content
    ∙ ap (λ (x : ℕ). add_order x 0) amount
    ∙ add_order-none (add_order old.base.amount (after till (opening old.ring.book.start 0) h).content) (add_order-amount old.base.amount (after till (opening old.ring.book.start 0) h).content)
    ∙ ap (λ (x : State ℕ). add_order old.base.amount x.content) now in
    state_like new.ring.book.now.ring old.ring.book.now.ring (add_order new.base.amount new.ring.book.now.content) (add_order old.base.amount old.ring.book.now.content) (new.base.grants + new.ring.book.now.grants) (old.base.grants + old.ring.book.now.grants)
    ring whole (omega arith)

pub next_kept : (old new : EndlessView) → IsKeptRing old → IsEndless new → IsNextRing old new → IsKeptRing new
next_kept old new k j n = record { endless = j; seats = n.clients.0 ∙ k.seats }

-- ---- what is carried

pub carried_one : (old new : EndlessView) (token other : ℕ) (r : Receipt) → other ≡ other_machine (state_of old) → IsCalled old new 3 (op.Pass other token) r → AreMade old (map Call (carried (state_of old) (Some token))) new
carried_one old new token other r e c = subst (λ (m : ℕ). AreMade old (Call (called (state_of old) 3 (op.Pass m token)) ∷ []) new) e (called_makes old new 3 (op.Pass other token) r c)

-- the next ring, of its parts
pub next_of : (v : LockView) (empty reserved next : EndlessView) → IsKeptLock v → IsKeptRing empty → IsNextRing v.ring empty → IsSameEndless empty reserved → AreMade reserved (map Call (carried (state_of reserved) (token_of v.holder))) next →
    IsKeptRing next → length v.queue ≤ next.ring.book.room → IsNextOf v next
next_of v empty reserved next k f n s m r room =
    let state : state_of reserved ≡ state_of v.ring = same_state empty reserved s ∙ next_state v.ring empty k.ring.endless f.endless n in record {
      empty = empty;
      kept = f;
      begun = n;
      carried = made_of_same empty reserved next (carries (lock_of v)) s (subst (λ (a : State ℕ). AreMade reserved (map Call (carried a (token_of v.holder))) next) state m);
      ring = r;
      room = room;
    }

-- ---- a lock continues

pub next_lock : (v : LockView) (next : EndlessView) (queue : List Waiter) → IsKeptLock v → IsRightLock (lock_of v) → IsNextOf v next → queue ≡ v.queue → IsNextLock v (record { ring = next; queue = queue; holder = v.holder })
next_lock v next queue k r n e =
    let begun : state_of n.empty ≡ state_of v.ring = next_state v.ring n.empty k.ring.endless n.kept.endless n.begun in
    let state : state_of next ≡ state_of v.ring =
    made_state n.empty next (carries (lock_of v)) n.carried ∙ ap (λ (a : State ℕ). after till a (events_of (carries (lock_of v)))) begun ∙ carries_nothing (lock_of v) r in record {
      ring = n;
      same = ap (λ (a : State ℕ). let l : Lock = record { ring = a; queue = queue; holder = v.holder } in l) state
          ∙ ap (λ (x : List Waiter). let l : Lock = record { ring = state_of v.ring; queue = x; holder = v.holder } in l) e;
    }

-- ---- all of them, one by one

next_push : (vs ws : List LockView) (v w : LockView) → AreNext vs ws → IsNextLock v w → AreNext (vs ++ v ∷ []) (ws ++ w ∷ [])
next_push [] ws v w a i = subst (λ (x : List LockView). AreNext (v ∷ []) (x ++ w ∷ [])) (sym a) (i, refl)
next_push (x ∷ vs) [] v w a i = absurd a
next_push (x ∷ vs) (y ∷ ws) v w a i = (a.0, next_push vs ws v w a.1 i)

pub next_more : (ps qs qs' : List LockParts) (n : ℕ) (p q : LockParts) → n < length ps → p ≡ get_or ps n p → AreNext (views_of (take n ps)) (views_of qs) → IsNextLock (view_of p) (view_of q) → qs' ≡ qs ++ q ∷ [] →
    AreNext (views_of (take (n + 1) ps)) (views_of qs')
next_more ps qs qs' n p q l is a i grown =
    let more : views_of (take (n + 1) ps) ≡ views_of (take n ps) ++ view_of p ∷ [] =
    ap (λ (x : List LockParts). views_of x) (take_more ps n p l ∙ ap (λ (x : LockParts). take n ps ++ x ∷ []) (sym is)) ∙ map-append view_of (take n ps) (p ∷ []) in
    let ends : views_of qs' ≡ views_of qs ++ view_of q ∷ [] = ap (λ (x : List LockParts). views_of x) grown ∙ map-append view_of qs (q ∷ []) in
    subst (λ (x : List LockView). AreNext (views_of (take (n + 1) ps)) x) (sym ends)
    (subst (λ (x : List LockView). AreNext x (views_of qs ++ view_of q ∷ [])) (sym more) (next_push (views_of (take n ps)) (views_of qs) (view_of p) (view_of q) a i))

pub next_same : (vs ws : List LockView) → AreNext vs ws → locks_of ws ≡ locks_of vs
next_same [] ws a = ap (λ (x : List LockView). locks_of x) a
next_same (v ∷ vs) [] a = absurd a
next_same (v ∷ vs) (w ∷ ws) a =
    ap (λ (l : Lock). l ∷ locks_of ws) a.0.same ∙ ap (λ (ls : List Lock). lock_of v ∷ ls) (next_same vs ws a.1)

next_long : (vs ws : List LockView) → AreNext vs ws → length ws ≡ length vs
next_long [] ws a = ap (λ (x : List LockView). length x) a
next_long (v ∷ vs) [] a = absurd a
next_long (v ∷ vs) (w ∷ ws) a = ap (λ (n : ℕ). suc n) (next_long vs ws a.1)

no_view : (vs : List LockView) (i : ℕ) (w : LockView) → vs ≡ [] → slice_get vs i ≡ Some w → ⊥
no_view vs i w e f = none (ap (λ (x : List LockView). slice_get x i) (sym e) ∙ f)
  where
    none : ◌≡◌ {A = Option LockView} None (Some w) → ⊥
    none p = cc

one_view : (x y : LockView) → ◌≡◌ {A = Option LockView} (Some x) (Some y) → x ≡ y
one_view x y e = cc

kept_lock : (v w : LockView) → IsNextLock v w → IsKeptLock w
kept_lock v w n =
    let queue : w.queue ≡ v.queue = ap (λ (l : Lock). l.queue) n.same in record {
      ring = n.ring.ring;
      room = subst (λ (x : List Waiter). length x ≤ w.ring.ring.book.room) (sym queue) n.ring.room;
    }

kept_each : (vs ws : List LockView) (i : ℕ) (w : LockView) → AreNext vs ws → slice_get ws i ≡ Some w → IsKeptLock w
kept_each [] ws i w a e = absurd (no_view ws i w a e)
kept_each (v ∷ vs) [] i w a e = absurd a
kept_each (v ∷ vs) (x ∷ ws) zero w a e = subst (λ (y : LockView). IsKeptLock y) (one_view x w e) (kept_lock v x a.0)
kept_each (v ∷ vs) (x ∷ ws) (suc i) w a e = kept_each vs ws i w a.1 e

pub next_all : (vs ws : List LockView) (es fs : List (ℕ × ℕ)) → AreKept vs es → AreNext vs ws → fs ≡ es → AreKept ws fs
next_all vs ws es fs k a f =
    let same = next_same vs ws a in record {
      right = subst (λ (x : List Lock). AreRight x) (sym same) k.right;
      few = subst (λ (n : ℕ). n ≤ lock_limit) (sym (next_long vs ws a)) k.few;
      each = λ i w e. kept_each vs ws i w a e;
      waits = subst (λ (x : List (ℕ × ℕ)). AreWaits (locks_of ws) x) (sym f) (subst (λ (x : List Lock). AreWaits x es) (sym same) k.waits);
    }

pub none_at : (ps : List LockParts) (i : ℕ) (p : LockParts) (why : Refusal) → i < length ps → p ≡ get_or ps i p → IsNoNext (view_of p) why → HaveNoNext (views_of ps) why
none_at ps i p why l e n = inl (i, view_of p, slice_get-map view_of ps i ∙ ap (λ (x : Option LockParts). option_map view_of x) (slice_get_read ps (length ps) i p refl l e), n)

pub lock_right : (ps : List LockParts) (es : List (ℕ × ℕ)) (i : ℕ) (p : LockParts) → AreKept (views_of ps) es → slice_get ps i ≡ Some p → IsRightLock (lock_of (view_of p))
lock_right ps es i p k e = k.right.each i (lock_of (view_of p)) (slice_get-map lock_of (views_of ps) i ∙ ap (λ (x : Option LockView). option_map lock_of x) (view_there ps i p e))
