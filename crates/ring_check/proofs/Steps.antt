-- An event without a fault is a step of the ring, and a step keeps the ring.
use Rattle.std.proofs.Common.{◌≡◌, ℕ, ◌+◌, ◌<◌, ◌≤◌, List, length, get_or, set, true, false, Bool, cond, refl, ap, subst, inl, inr, arith, ◌∙◌, ◌++◌, ◌∷◌, [], get_or-set_same, get_or-set_other, sym, eqb}
use Rattle.std.specs.Prelude.{nat_lt, Some, None}
use Rattle.std.proofs.lemmas.Bool.{cases_Bool, cases_eq}
use Rattle.std.proofs.lemmas.List.{length-set}
use Rattle.ring_model.specs.Limits.{seat_limit}
use Rattle.ring_model.specs.Ring.{ring_with, written, Ring, IsRing, is_privileged}
use Rattle.ring_model.proofs.Settled.{move_ring}
use Rattle.ring_model.proofs.Histories.{calm_next, after-push, StepOf-reply}
use Rattle.ring_model.specs.declared.events.Op.{Op}
use Rattle.ring_model.specs.declared.events.Op.TheVariants.{Pass, Member, Corrupt}
use Rattle.ring_model.specs.declared.events.Reply.{Reply}
use Rattle.ring_model.specs.declared.events.Reply.TheVariants.{Granted, NotPrivileged, Corrupted}
use Rattle.ring_model.specs.declared.events.Event.{Event}
use Rattle.ring_model.specs.History.{State, Step, StepOf, granted_state, next, reply, after}
use Rattle.ring_model.specs.Resources.{till}
use Rattle.saved_history.specs.declared.saved.SavedEvent.{SavedEvent}
use Rattle.saved_history.specs.declared.saved.SavedEvent.TheVariants as saved
use Rattle.ring_check.specs.declared.answers.Kind.TheVariants.{Range, Reply as ReplyKind, Group}
use Rattle.ring_check.specs.Members.{may_come}
use Rattle.ring_check.specs.Table.{event_of, first_state, same_reply, is_replied, op_in_range, in_range, event_fault}
use Rattle.ring_check.proofs.Booleans.{both, joined, same, below, eq_true, lt_true}

pub same_is : (r q : Reply) → same_reply r q ≡ true → r ≡ q
same_is (Granted a b) (Granted c d) e = let p = both (eqb a c) (eqb b d) e in let x : a ≡ c = same a c p.0 in let y : b ≡ d = same b d p.1 in rw (x, y) refl
same_is (Granted a b) NotPrivileged e = absurd (cc)
same_is (Granted a b) (Corrupted d) e = absurd (cc)
same_is NotPrivileged (Granted c d) e = absurd (cc)
same_is NotPrivileged NotPrivileged e = refl
same_is NotPrivileged (Corrupted d) e = absurd (cc)
same_is (Corrupted a) (Granted c d) e = absurd (cc)
same_is (Corrupted a) NotPrivileged e = absurd (cc)
same_is (Corrupted a) (Corrupted b) e = let x : a ≡ b = same a b e in rw x refl

same_self : (r : Reply) → same_reply r r ≡ true
same_self (Granted a b) = joined (eqb a a) (eqb b b) (eq_true a a refl) (eq_true b b refl)
same_self NotPrivileged = refl
same_self (Corrupted a) = eq_true a a refl

-- no fault: in range, the reply is the ring's, and the event may come
event_right : (n : ℕ) (run : List Event) (a : State ℕ) (e : Event) → event_fault n run a e ≡ None →
    (in_range n a.ring.k e ≡ true) × (e.reply ≡ reply till a e.op) × (may_come n run e ≡ true)
event_right n run a e h = go (in_range n a.ring.k e) (is_replied a e) (may_come n run e) refl refl refl h
  where
    go : (x y z : Bool) → in_range n a.ring.k e ≡ x → is_replied a e ≡ y → may_come n run e ≡ z → cond x (cond y (cond z None (Some Group)) (Some ReplyKind)) (Some Range) ≡ None →
        (in_range n a.ring.k e ≡ true) × (e.reply ≡ reply till a e.op) × (may_come n run e ≡ true)
    go true true true p q t h = (p, same_is e.reply (reply till a e.op) q, t)
    go true true false p q t h = absurd (cc)
    go true false z p q t h = absurd (cc)
    go false y z p q t h = absurd (cc)

-- a line can describe this call and this reply: a member's says that it was granted
abbrev pub IsTold : Op → Reply → Type 0
IsTold (Member machine order left) NotPrivileged = ⊥
IsTold o r = Unit {0}

line_told : (e : SavedEvent) → IsTold (event_of e).op (event_of e).reply
line_told (saved.Granted seat machine order number result) = tt
line_told (saved.Refused seat machine order) = tt
line_told (saved.Member seat machine order left number result) = tt
line_told (saved.Corrupted seat machine value old) = tt

step_right : (a : State ℕ) (o : Op) (r : Reply) → op_in_range (length a.ring.values) a.ring.k o ≡ true → IsTold o r → r ≡ reply till a o → StepOf till a o r (next till a o)
step_right a (Member machine order left) r i told e =
    let l : machine < length a.ring.values = below machine (length a.ring.values) i in
    elim (cases_Bool (is_privileged a.ring.values machine)) [
      | inl t ↦ rw (e, t) (l, t, refl, refl, refl)
      | inr f ↦
          let none : r ≡ NotPrivileged = e ∙ rw f refl in
          absurd (subst (λ (x : Reply). IsTold (Member machine order left) x) none told)
    ]
step_right a (Pass machine order) r i told e =
    let l : machine < length a.ring.values = below machine (length a.ring.values) i in
    elim (cases_Bool (is_privileged a.ring.values machine)) [
      | inl t ↦ rw (e, t) (l, t, refl, refl, refl)
      | inr f ↦ rw (e, f) (l, f, refl)
    ]
step_right a (Corrupt machine value) r i told e =
    let p = both (nat_lt machine (length a.ring.values)) (nat_lt value a.ring.k) i in
    rw e (below machine (length a.ring.values) p.0, below value a.ring.k p.1, refl, refl)

step_range : (a : State ℕ) (o : Op) (r : Reply) → StepOf till a o r (next till a o) → op_in_range (length a.ring.values) a.ring.k o ≡ true
step_range a (Pass i order) (Granted number result) h = lt_true i (length a.ring.values) h.0
step_range a (Pass i order) NotPrivileged h = lt_true i (length a.ring.values) h.0
step_range a (Pass i order) (Corrupted old) h = absurd h
step_range a (Member i order left) (Granted number result) h = lt_true i (length a.ring.values) h.0
step_range a (Member i order left) NotPrivileged h = absurd h
step_range a (Member i order left) (Corrupted old) h = absurd h
step_range a (Corrupt i v) (Granted number result) h = absurd h
step_range a (Corrupt i v) NotPrivileged h = absurd h
step_range a (Corrupt i v) (Corrupted old) h =
    joined (nat_lt i (length a.ring.values)) (nat_lt v a.ring.k) (lt_true i (length a.ring.values) h.0) (lt_true v a.ring.k h.1)

-- an event line has no fault exactly where its event is a step by one of the seats, and may come
pub event_means : (n : ℕ) (run : List Event) (a : State ℕ) (d : SavedEvent) → length a.ring.values ≡ n → event_fault n run a (event_of d) ≡ None →
    ((event_of d).seat < seat_limit) × Step till a (event_of d) (next till a (event_of d).op) × (may_come n run (event_of d) ≡ true)
event_means n run a d l h =
    let e = event_of d in
    let p = event_right n run a e h in
    let q = both (nat_lt e.seat seat_limit) (op_in_range n a.ring.k e.op) p.0 in
    (below e.seat seat_limit q.0, step_right a e.op e.reply (ap (λ (x : ℕ). op_in_range x a.ring.k e.op) l ∙ q.1) (line_told d) p.1, p.2)

pub event_fine : (n : ℕ) (run : List Event) (a : State ℕ) (e : Event) → length a.ring.values ≡ n → e.seat < seat_limit → Step till a e (next till a e.op) → may_come n run e ≡ true →
    event_fault n run a e ≡ None
event_fine n run a e l seat step may =
    let p = step_range a e.op e.reply step in
    let said : e.reply ≡ reply till a e.op = StepOf-reply till a e.op e.reply (next till a e.op) step in
    let i : in_range n a.ring.k e ≡ true = joined (nat_lt e.seat seat_limit) (op_in_range n a.ring.k e.op) (lt_true e.seat seat_limit seat) (ap (λ (x : ℕ). op_in_range x a.ring.k e.op) (sym l) ∙ p) in
    let r : is_replied a e ≡ true = ap (λ (x : Reply). same_reply x (reply till a e.op)) said ∙ same_self (reply till a e.op) in
    rw (i, r, may) refl

-- a ring with one value written
set_ring : (r : Ring) (i v : ℕ) → IsRing r → i < length r.values → v < r.k → IsRing (written r i v)
set_ring r i v g l small =
    let two = g.two in
    let enough = g.enough in
    let n : length (set r.values i v) ≡ length r.values = length-set r.values i v in
    record {
      two = omega arith;
      enough = omega arith;
      below = λ k lk. elim (cases_eq k i) [
        | inl e ↦ let a : get_or (set r.values i v) k 0 ≡ v = ap (λ (x : ℕ). get_or (set r.values i v) x 0) e ∙ get_or-set_same r.values i v 0 l in omega arith
        | inr ne ↦
            let a : get_or (set r.values i v) k 0 ≡ get_or r.values k 0 = get_or-set_other r.values i k v 0 ne in
            let b : get_or r.values k 0 < r.k = g.below k (omega arith) in
            omega arith
      ];
    }

-- the invariant of a step
pub record IsKept (a b : State ℕ) : Type 0 where
  pub ring : IsRing b.ring
  pub long : length b.ring.values ≡ length a.ring.values
  pub same_k : b.ring.k ≡ a.ring.k
  pub grants : b.grants ≤ a.grants + 1

grant_keeps : (a : State ℕ) (i order : ℕ) → IsRing a.ring → i < length a.ring.values → IsKept a (granted_state till a i order)
grant_keeps a i order ring l = record { ring = move_ring a.ring i ring l; long = length-set a.ring.values i _; same_k = refl; grants = omega arith }

pub step_keeps : (a : State ℕ) (o : Op) (r : Reply) → IsRing a.ring → StepOf till a o r (next till a o) → IsKept a (next till a o)
step_keeps a (Pass i order) (Granted number result) ring h = rw h.1 (grant_keeps a i order ring h.0)
step_keeps a (Pass i order) NotPrivileged ring h = rw h.1 (record { ring = ring; long = refl; same_k = refl; grants = omega arith })
step_keeps a (Pass i order) (Corrupted old) ring h = absurd h
step_keeps a (Member i order left) (Granted number result) ring h = rw h.1 (grant_keeps a i order ring h.0)
step_keeps a (Member i order left) NotPrivileged ring h = absurd h
step_keeps a (Member i order left) (Corrupted old) ring h = absurd h
step_keeps a (Corrupt i v) (Granted number result) ring h = absurd h
step_keeps a (Corrupt i v) NotPrivileged ring h = absurd h
step_keeps a (Corrupt i v) (Corrupted old) ring h = record {
  ring = set_ring a.ring i v ring h.0 h.1;
  long = length-set a.ring.values i v;
  same_k = refl;
  grants = omega arith;
}

pub calm_next_le : (c : ℕ) (r : Reply) → calm_next c r ≤ c + 1
calm_next_le c (Granted number result) = omega arith
calm_next_le c NotPrivileged = omega arith
calm_next_le c (Corrupted old) = omega arith

-- a ring of as many machines as the start, where a history has led
pub record IsWell (k : ℕ) (start : List ℕ) (h : List Event) : Type 0 where
  pub ring : IsRing (after till (first_state (ring_with k start)) h).ring
  pub long : length (after till (first_state (ring_with k start)) h).ring.values ≡ length start

pub well_push : (k : ℕ) (start : List ℕ) (h : List Event) (e : Event) → IsWell k start h →
    Step till (after till (first_state (ring_with k start)) h) e (next till (after till (first_state (ring_with k start)) h) e.op) → IsWell k start (h ++ e ∷ [])
well_push k start h e w step =
    let a = after till (first_state (ring_with k start)) h in
    let kept = step_keeps a e.op e.reply w.ring step in
    let on = after-push till (first_state (ring_with k start)) h e in
    record {
      ring = subst (λ (x : State ℕ). IsRing x.ring) (sym on) kept.ring;
      long = ap (λ (x : State ℕ). length x.ring.values) on ∙ kept.long ∙ w.long;
    }
