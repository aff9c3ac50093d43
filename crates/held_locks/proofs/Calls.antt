-- The calls of a ring, over all its segments.
use Rattle.std.proofs.Common.{◌≡◌, ℕ, zero, suc, ◌-◌, ◌<◌, true, false, List, [], ◌∷◌, ◌++◌, map, length, refl, sym, ◌∙◌, ap, subst, arith}
use Rattle.std.proofs.lemmas.List.{length-set, append-nil, append_assoc}
use Rattle.ring_model.specs.Ring.{IsRing, is_privileged, first_privileged, is_settled}
use Rattle.held_locks.specs.Grants.{most_passes}
use Rattle.ring_model.specs.History.{State, next, reply, after}
use Rattle.ring_model.specs.Resources.{till}
use Rattle.ring_model.specs.declared.events.Op.{Op}
use Rattle.ring_model.specs.declared.events.Reply.{Reply}
use Rattle.ring_model.specs.declared.events.Event.{Event}
use Rattle.ring_model.specs.declared.events.Receipt.{Receipt}
use Rattle.ring_model.proofs.Histories.{StepOf-next, StepOf-reply}
use Rattle.ring_model.proofs.Settled.{first_is}
use Rattle.ring_model.specs.declared.bases.Base.{Base}
use Rattle.ring_model.specs.Bases.{shifted_reply}
use Rattle.ring_model.proofs.Shifts.{shifted_state, next_shifted, reply_shifted}
use Rattle.endless_ring.specs.Endless.{EndlessView, IsEndless, IsCalled, IsSameEndless}
use Rattle.ring_book.specs.BookView.{BookView}
use Rattle.held_locks.specs.Locks.{Mark, Call, Survey, called, first_pass, repairs}
use Rattle.held_locks.specs.Promises.{events_of}
use Rattle.held_locks.specs.Kept.{state_of, IsKeptRing, AreMade}
use Rattle.held_locks.specs.Parts.{IsMade}
use Rattle.ring_model.proofs.FirstPasses.{passes_left_means}
use Rattle.held_locks.proofs.Rings.{repairs_are, events_of_calls}

-- ---- the state

pub same_state : (old new : EndlessView) → IsSameEndless old new → state_of new ≡ state_of old
same_state old new s =
    let now : new.ring.book.now ≡ old.ring.book.now = ap (λ b. b.now) s.ring.book in
    ap (λ (b : Base). shifted_state b new.ring.book.now) s.base ∙ ap (λ (a : State ℕ). shifted_state old.base a) now

pub same_itself : (e : EndlessView) → IsSameEndless e e
same_itself e = record { base = refl; ring = record { book = refl; clients = refl } }

pub called_state : (old new : EndlessView) (seat : ℕ) (o : Op) (r : Receipt) → IsCalled old new seat o r → state_of new ≡ next till (state_of old) o
called_state old new seat o r c =
    let e : Event = c.local.event in
    let step : new.ring.book.now ≡ next till old.ring.book.now e.op = StepOf-next till old.ring.book.now e.op e.reply new.ring.book.now c.recorded.step in
    ap (λ (b : Base). shifted_state b new.ring.book.now) c.base
    ∙ ap (λ (a : State ℕ). shifted_state old.base a) (step ∙ ap (λ (p : Op). next till old.ring.book.now p) c.recorded.of_call)
    ∙ sym (next_shifted old.base old.ring.book.now o)

event_is : (s t : ℕ) (o p : Op) (r q : Reply) → s ≡ t → o ≡ p → r ≡ q → ◌≡◌ {A = Event} (record { seat = s; op = o; reply = r }) (record { seat = t; op = p; reply = q })
event_is s t o p r q a b c =
    ap (λ (x : ℕ). record { seat = x; op = o; reply = r }) a ∙ ap (λ (x : Op). record { seat = t; op = x; reply = r }) b ∙ ap (λ (x : Reply). record { seat = t; op = p; reply = x }) c

pub called_event : (old new : EndlessView) (seat : ℕ) (o : Op) (r : Receipt) → IsCalled old new seat o r → r.event ≡ called (state_of old) seat o
called_event old new seat o r c =
    let e : Event = c.local.event in
    let step : e.reply ≡ reply till old.ring.book.now e.op = StepOf-reply till old.ring.book.now e.op e.reply new.ring.book.now c.recorded.step in
    ap (λ (x : Receipt). x.event) c.shifted
    ∙ event_is e.seat seat e.op o (shifted_reply old.base e.reply) (reply till (state_of old) o) c.recorded.of_seat c.recorded.of_call
    (ap (λ (x : Reply). shifted_reply old.base x) (step ∙ ap (λ (p : Op). reply till old.ring.book.now p) c.recorded.of_call) ∙ sym (reply_shifted old.base old.ring.book.now o))

pub called_makes : (old new : EndlessView) (seat : ℕ) (o : Op) (r : Receipt) → IsCalled old new seat o r → IsMade old new seat o
called_makes old new seat o r c =
    let e : r.event ≡ called (state_of old) seat o = called_event old new seat o r c in
    (old, new, r, same_itself old, c, e, same_itself new)

pub called_kept : (old new : EndlessView) (seat : ℕ) (o : Op) (r : Receipt) → IsKeptRing old → IsEndless new → IsCalled old new seat o r → IsKeptRing new
called_kept old new seat o r k i c = record { endless = i; seats = ap (λ cs. length cs) c.logged ∙ (simp length-set) ∙ k.seats }

-- ---- a ring that is kept

pub kept_is_ring : (e : EndlessView) → IsKeptRing e → IsRing (state_of e).ring
kept_is_ring e k = k.endless.ring.book.now_ring.ring

pub first_below : (e : EndlessView) → IsKeptRing e → first_privileged (state_of e).ring.values < length e.ring.book.now.ring.values
first_below e k =
    let r : IsRing (state_of e).ring = kept_is_ring e k in
    let two = r.two in
    (first_is (state_of e).ring.values (omega arith)).0

pub first_passes : (e : EndlessView) → IsKeptRing e → is_privileged e.ring.book.now.ring.values (first_privileged e.ring.book.now.ring.values) ≡ true
first_passes e k =
    let r : IsRing (state_of e).ring = kept_is_ring e k in
    let two = r.two in
    (first_is (state_of e).ring.values (omega arith)).1

-- ---- what is made one after the other

pub same_kept : (old new : EndlessView) → IsKeptRing old → IsEndless new → IsSameEndless old new → IsKeptRing new
same_kept old new k i s = record { endless = i; seats = ap (λ cs. length cs) s.ring.clients ∙ k.seats }

book_same : (b c d : BookView ℕ) → c ≡ record b { room = c.room } → d ≡ record c { room = d.room } → d ≡ record b { room = d.room }
book_same b c d p q = q ∙ ap (λ (x : BookView ℕ). record x { room = d.room }) p

pub same_twice : (a b c : EndlessView) → IsSameEndless a b → IsSameEndless b c → IsSameEndless a c
same_twice a b c s t = record { base = t.base ∙ s.base; ring = record { book = book_same a.ring.book b.ring.book c.ring.book s.ring.book t.ring.book; clients = t.ring.clients ∙ s.ring.clients } }

-- what is made of a ring that is the same, room aside
pub made_of_same : (old now new : EndlessView) (ms : List Mark) → IsSameEndless old now → AreMade now ms new → AreMade old ms new
made_of_same old now new [] s m = same_twice old now new s m
made_of_same old now new (Call e ∷ ms) s m = (m.0, m.1, m.2, same_twice old now m.0 s m.3, m.4, m.5, m.6)
made_of_same old now new (Survey seat ∷ ms) s m = made_of_same old now new ms s m

pub made_append : (old now new : EndlessView) (xs ys : List Mark) → AreMade old xs now → AreMade now ys new → AreMade old (xs ++ ys) new
made_append old now new [] ys a b = made_of_same old now new ys a b
made_append old now new (Call e ∷ xs) ys a b = (a.0, a.1, a.2, a.3, a.4, a.5, made_append a.1 now new xs ys a.6 b)
made_append old now new (Survey seat ∷ xs) ys a b = made_append old now new xs ys a b

-- the state after what is made
pub made_state : (old new : EndlessView) (ms : List Mark) → AreMade old ms new → state_of new ≡ after till (state_of old) (events_of ms)
made_state old new [] s = same_state old new s
made_state old new (Call e ∷ ms) m =
    made_state m.1 new ms m.6 ∙ ap (λ (a : State ℕ). after till a (events_of ms)) (called_state m.0 m.1 e.seat e.op m.2 m.4 ∙ ap (λ (a : State ℕ). next till a e.op) (same_state old m.0 m.3))
made_state old new (Survey seat ∷ ms) m = made_state old new ms m

-- ---- repairs, from the first on

pub repairs_none : (more : ℕ) (a : State ℕ) → is_settled a.ring.values ≡ true → repairs more a ≡ []
repairs_none zero a e = refl
repairs_none (suc more) a e = rw e refl

pub repairs_one : (more : ℕ) (a : State ℕ) → 0 < more → is_settled a.ring.values ≡ false → repairs more a ≡ called a 9 (first_pass a 0) ∷ repairs (more - 1) (next till a (first_pass a 0))
repairs_one zero a l e = absurd (omega arith)
repairs_one (suc more) a l e =
    let n : more ≡ suc more - 1 = omega arith in
    rw e (ap (λ (k : ℕ). called a 9 (first_pass a 0) ∷ repairs k (next till a (first_pass a 0))) n)

pub made_is : (old new : EndlessView) (ms ns : List Mark) → ms ≡ ns → AreMade old ms new → AreMade old ns new
made_is old new ms ns e m = subst (λ (x : List Mark). AreMade old x new) e m

-- a repair that is over
pub over : (old new : EndlessView) (ms all : List Mark) (es : List Event) → es ≡ [] → AreMade old ms new → ms ++ map Call es ≡ all → AreMade old all new
over old new ms all es none m e = made_is old new ms all (sym (append-nil ms) ∙ ap (λ (x : List Event). ms ++ map Call x) (sym none) ∙ e) m

-- and one that continues
pub record IsRepairing (old new : EndlessView) (more : ℕ) (whole : List Mark) : Type 0 where
  pub ms : List Mark
  pub made : AreMade old ms new
  pub all : ms ++ map Call (repairs more (state_of new)) ≡ whole

pub repairing : (old now new : EndlessView) (more : ℕ) (ms all : List Mark) → 0 < more → is_settled (state_of now).ring.values ≡ false → AreMade old ms now → ms ++ map Call (repairs more (state_of now)) ≡ all →
    IsMade now new 9 (first_pass (state_of now) 0) → IsRepairing old new (more - 1) all
repairing old now new more ms all l e m q p =
    let one : Mark = Call (called (state_of now) 9 (first_pass (state_of now) 0)) in
    let state : state_of new ≡ next till (state_of now) (first_pass (state_of now) 0) = made_state now new (one ∷ []) p in
    let go : repairs more (state_of now) ≡ called (state_of now) 9 (first_pass (state_of now) 0) ∷ repairs (more - 1) (state_of new) =
    repairs_one more (state_of now) l e ∙ ap (λ (a : State ℕ). called (state_of now) 9 (first_pass (state_of now) 0) ∷ repairs (more - 1) a) (sym state) in record {
      ms = ms ++ one ∷ [];
      made = made_append old now new ms (one ∷ []) m p;
      all = append_assoc ms (one ∷ []) (map Call (repairs (more - 1) (state_of new))) ∙ ap (λ (x : List Event). ms ++ map Call x) (sym go) ∙ q;
    }

-- a ring that was repaired is settled
pub repaired_settled : (old new : EndlessView) → IsKeptRing old → AreMade old (map Call (repairs (most_passes (length (state_of old).ring.values)) (state_of old))) new → is_settled (state_of new).ring.values ≡ true
repaired_settled old new k m =
    let a : State ℕ = state_of old in
    let es : List Event = repairs (most_passes (length a.ring.values)) a in
    let state : state_of new ≡ after till a es = made_state old new (map Call es) m ∙ ap (λ (x : List Event). after till a x) (events_of_calls es) in
    subst (λ (x : State ℕ). is_settled x.ring.values ≡ true) (sym state) (repairs_are (most_passes (length a.ring.values)) a (kept_is_ring old k) (passes_left_means a.ring (kept_is_ring old k)).2).good.settled
