-- Which locks begin a segment: those whose rings show their holds.
use Rattle.std.proofs.Common.{◌≡◌, ℕ, suc, Bool, true, false, List, [], ◌∷◌, ◌++◌, map, length, get_or, Option, Some, None, refl, sym, ◌∙◌, ap, subst, inl, inr, arith, slice_get, ◌<◌, zero, drop, ◌≤◌, length-append, if◌then◌else◌}
use Rattle.std.specs.List.{AllByRecursion}
use Rattle.std.proofs.lemmas.List.{length-set}
use Rattle.ring_model.specs.Ring.{is_settled}
use Rattle.ring_model.specs.Resources.{till}
use Rattle.ring_model.specs.History.{State, next}
use Rattle.ring_model.specs.declared.events.Op.{Op}
use Rattle.ring_model.specs.declared.events.Event.{Event}
use Rattle.ring_model.specs.declared.events.Receipt.{Receipt}
use Rattle.ring_book.specs.BookView.{BookView}
use Rattle.ring_logs.specs.LogView.{LogView}
use Rattle.ring_logs.specs.Seats.{receipts_from}
use Rattle.one_thread_ring.specs.Rings.{told_more, grown}
use Rattle.ring_model.specs.declared.bases.Base.{Base}
use Rattle.ring_model.specs.Bases.{shifted_event, shifted}
use Rattle.endless_ring.specs.Endless.{EndlessView, IsSameEndless, IsCalled}
use Rattle.ring_service.specs.Standings.{Standing, standing_of}
use Rattle.held_locks.specs.Grants.{most_passes, repairs, first_pass, carried}
use Rattle.held_locks.specs.Queues.{Lock}
use Rattle.held_locks.specs.Locks.{Mark, Survey, called, Call}
use Rattle.held_locks.specs.Promises.{open_after, token_of, open_behind}
use Rattle.held_locks.specs.Kept.{LockView, IsKeptRing, AreMade, state_of}
use Rattle.held_locks.specs.Opened.{open_in, holder_after}
use Rattle.held_locks.specs.Cuts.{AreNext, IsNextLock}
use Rattle.held_locks.proofs.Rings.{repairs_no_holds}
use Rattle.held_locks.proofs.Adding.{get_push}
use Rattle.lock_journal.proofs.Following.{some_is, none_is}
use Rattle.lock_journal.proofs.Longer.{noted_lines}
use Rattle.lock_journal.proofs.Recovering.{begun_few, followed_begun, kept_bounded, end_within}
use Rattle.lock_journal.proofs.Shadows.{open_of, end_of, end_called, open_more}
use Rattle.lock_journal.specs.Begun.{IsBegun, AreSmall}
use Rattle.lock_journal.specs.Recovered.{AreAdded, AddedLocksBegin, NextLocksBegin}
use Rattle.lock_journal.specs.Segments.{rings_of}
use Rattle.ring_model.specs.declared.events.Entry.TheVariants as entry

-- a ring of a lock, where each hold that ended has ended before its end
record IsOpen (e : EndlessView) : Type 0 where
  pub seats : length e.ring.clients ≡ 10
  pub ended : end_of e.ring.clients ≤ length e.ring.book.history

open_kept : (e : EndlessView) → IsKeptRing e → IsOpen e
open_kept e k = record { seats = k.seats; ended = end_within e k }

-- ---- calls

-- the ring after a call, and the hold that is open in it
record IsOpenAfter (old new : EndlessView) (shown : Event) : Type 0 where
  pub ring : IsOpen new
  pub open_hold : open_in new ≡ open_behind (open_in old) shown

called_open : (old new : EndlessView) (seat : ℕ) (o : Op) (r : Receipt) → IsOpen old → IsCalled old new seat o r → seat < 10 → IsOpenAfter old new r.event
called_open old new seat o r k c within =
    let x : Event = c.local.event in
    let s : Standing = standing_of old in
    let seats = k.seats in
    let inside : seat < length s.clients = omega (arith, seats, within) in
    let place : entry.Receipt c.local ∷ [] ≡ receipts_from (length s.history) (x ∷ []) = ap (λ (n : ℕ). entry.Receipt (record { position = n; event = x }) ∷ []) c.recorded.position in
    let clients : new.ring.clients ≡ told_more s.clients seat (receipts_from (length s.history) (x ∷ [])) = c.logged ∙ ap (λ log. told_more s.clients seat log) place in
    let history : new.ring.book.history ≡ s.history ++ x ∷ [] = c.recorded.grown in
    let long : length new.ring.book.history ≡ length (s.history ++ x ∷ []) = ap (λ (h : List Event). length h) history in
    let more = length-append s.history (x ∷ []) in
    let end : end_of new.ring.clients ≡ end_of s.clients = ap (λ (cs : List LogView). end_of cs) clients ∙ end_called s.clients seat (length s.history) (x ∷ []) inside in
    let before = k.ended in
    let shown : shifted_event s.base x ≡ r.event = sym (ap (λ (z : Receipt). z.event) c.shifted) in record {
      ring = record {
        seats = ap (λ (cs : List LogView). length cs) clients ∙ (length-set s.clients seat (grown (get_or s.clients seat (record { number = seat; log = [] })) (receipts_from (length s.history) (x ∷ []))) ∙ seats);
        ended = omega (arith, end, before, long, more);
      };
      open_hold = ap (λ (b : Base). open_of (record { base = b; start = new.ring.book.start; history = new.ring.book.history; clients = new.ring.clients })) c.base
          ∙ (ap (λ (h : List Event). open_of (record { base = s.base; start = new.ring.book.start; history = h; clients = new.ring.clients })) history
          ∙ (ap (λ (cs : List LogView). open_of (record { base = s.base; start = new.ring.book.start; history = s.history ++ x ∷ []; clients = cs })) clients
          ∙ (open_more s seat x inside k.ended ∙ ap (λ (z : Event). open_behind (open_of s) z) shown)));
    }

same_open_ring : (old new : EndlessView) → IsOpen old → IsSameEndless old new → IsOpen new
same_open_ring old new k s =
    let n : length new.ring.clients ≡ length old.ring.clients = ap (λ (cs : List LogView). length cs) s.ring.clients in
    let h : length new.ring.book.history ≡ length old.ring.book.history = ap (λ (b : BookView ℕ). length b.history) s.ring.book in
    let end : end_of new.ring.clients ≡ end_of old.ring.clients = ap (λ (cs : List LogView). end_of cs) s.ring.clients in
    let seats = k.seats in
    let before = k.ended in
    record { seats = omega (arith, n, seats); ended = omega (arith, end, h, before) }

same_open_in : (old new : EndlessView) → IsSameEndless old new → open_in new ≡ open_in old
same_open_in old new s =
    ap (λ (b : Base). open_of (record { base = b; start = new.ring.book.start; history = new.ring.book.history; clients = new.ring.clients })) s.base
    ∙ (ap (λ (b : BookView ℕ). open_of (record { base = old.base; start = new.ring.book.start; history = b.history; clients = new.ring.clients })) s.ring.book
    ∙ ap (λ (cs : List LogView). open_of (record { base = old.base; start = new.ring.book.start; history = old.ring.book.history; clients = cs })) s.ring.clients)

-- marks that are calls by the ring's seats
abbrev AreSeated : List Mark → Type 0
AreSeated [] = Unit {0}
AreSeated (Call e ∷ ms) = (e.seat < 10) × AreSeated ms
AreSeated (Survey seat ∷ ms) = ⊥

made_open : (old new : EndlessView) (ms : List Mark) → IsOpen old → AreSeated ms → AreMade old ms new → open_in new ≡ open_after (open_in old) ms
made_open old new [] k are m = same_open_in old new m
made_open old new (Call e ∷ ms) k are m =
    let one = called_open m.0 m.1 e.seat e.op m.2 (same_open_ring old m.0 k m.3) m.4 are.0 in
    made_open m.1 new ms one.ring are.1 m.6
    ∙ ap (λ (t : Option ℕ). open_after t ms) (one.open_hold ∙ (ap (λ (x : Event). open_behind (open_in m.0) x) m.5 ∙ ap (λ (t : Option ℕ). open_behind t e) (same_open_in old m.0 m.3)))
made_open old new (Survey seat ∷ ms) k are m = absurd are

-- ---- a lock that is added

repairs_seated : (most : ℕ) (a : State ℕ) → AreSeated (map Call (repairs most a))
repairs_seated zero a = tt
repairs_seated (suc most) a = go (is_settled a.ring.values) (repairs_seated most (next till a (first_pass a 0)))
  where
    go : (b : Bool) → AreSeated (map Call (repairs most (next till a (first_pass a 0)))) → AreSeated (map Call (if b then [] else (called a 9 (first_pass a 0) ∷ repairs most (next till a (first_pass a 0)))))
    go true more = tt
    go false more = (omega arith, more)

behind_is : (t : Option ℕ) → t ≡ token_of (holder_after t)
behind_is None = refl
behind_is (Some t) = refl

pub added_begins : (e ring : EndlessView) → IsKeptRing e → AreMade e (map Call (repairs (most_passes (length e.ring.book.now.ring.values)) (state_of e))) ring → IsBegun (record { ring = ring; queue = []; holder = holder_after (open_in e) })
added_begins e ring k m =
    let most : ℕ = most_passes (length e.ring.book.now.ring.values) in record {
      shown = made_open e ring (map Call (repairs most (state_of e))) (open_kept e k) (repairs_seated most (state_of e)) m ∙ ((repairs_no_holds most (state_of e) (open_in e)).same ∙ behind_is (open_in e));
      small = tt;
    }

added_to : (old : List LockView) (es : List EndlessView) (made : List LockView) → ((i : ℕ) (v : LockView) → slice_get old i ≡ Some v → IsBegun v) → AllByRecursion IsKeptRing es → AreAdded old es made →
    (i : ℕ) (v : LockView) → slice_get made i ≡ Some v → IsBegun v
added_to old [] made begun all a i v e = begun i v (ap (λ (x : List LockView). slice_get x i) (sym a) ∙ e)
added_to old (x ∷ es) made begun all a i v e =
    let one : LockView = record { ring = a.1.ring; queue = []; holder = holder_after (open_in x) } in
    added_to a.0 es made (λ j w f. elim (get_push old one j w (ap (λ (y : List LockView). slice_get y j) (sym a.1.added) ∙ f)) [
      | inl p ↦ begun j w p
      | inr p ↦ subst IsBegun (sym p) (added_begins x a.1.ring all.0 a.1.repaired)
    ]) all.1 a.2 i v e

pub added_locks_begin : AddedLocksBegin
added_locks_begin es made all a i v e = added_to [] es made (λ j w f. absurd (nothing w f)) all a i v e
  where
    nothing : (w : LockView) → ◌≡◌ {A = Option LockView} None (Some w) → ⊥
    nothing w e = cc

-- ---- a lock in its next segment

carried_seated : (a : State ℕ) (t : Option ℕ) → AreSeated (map Call (carried a t))
carried_seated a None = tt
carried_seated a (Some token) = (omega arith, tt)

carried_opens : (a : State ℕ) (t : Option ℕ) → open_after None (map Call (carried a t)) ≡ t
carried_opens a None = refl
carried_opens a (Some token) = refl

drop_none : (m : ℕ) (h : List Event) → h ≡ [] → drop m h ≡ []
drop_none m h e = ap (λ (x : List Event). drop m x) e ∙ go m
  where
    none : List Event
    none = []

    go : (k : ℕ) → drop k none ≡ none
    go zero = refl
    go (suc k) = refl

no_events : (n : ℕ) (b : Base) (h : List Event) → h ≡ [] → open_after None (map Call (drop n (shifted b h))) ≡ None
no_events n b h e = ap (λ (x : List Event). open_after None (map Call x)) (drop_none n (shifted b h) (ap (λ (x : List Event). shifted b x) e))

next_begins : (v w : LockView) → IsNextLock v w → AreSmall v.queue → IsBegun w
next_begins v w n small =
    let token : Option ℕ = token_of v.holder in
    let empty : EndlessView = n.ring.empty in record {
      shown = made_open empty w.ring (map Call (carried (state_of v.ring) token)) (open_kept empty n.ring.kept) (carried_seated (state_of v.ring) token) n.ring.carried
          ∙ (ap (λ (t : Option ℕ). open_after t (map Call (carried (state_of v.ring) token))) (no_events (end_of empty.ring.clients) empty.base empty.ring.book.history n.ring.begun.history)
          ∙ (carried_opens (state_of v.ring) token ∙ sym (ap (λ (l : Lock). token_of l.holder) n.same)));
      small = subst AreSmall (sym (ap (λ (l : Lock). l.queue) n.same)) small;
    }

all_next : (vs ws : List LockView) → AreNext vs ws → ((i : ℕ) (v : LockView) → slice_get vs i ≡ Some v → AreSmall v.queue) → (i : ℕ) (w : LockView) → slice_get ws i ≡ Some w → IsBegun w
all_next [] ws n small i w e = absurd (none_is w (ap (λ (x : List LockView). slice_get x i) (sym n) ∙ e))
all_next (v ∷ vs) [] n small i w e = absurd n
all_next (v ∷ vs) (x ∷ ws) n small zero w e = subst IsBegun (some_is x w e) (next_begins v x n.0 (small 0 v refl))
all_next (v ∷ vs) (x ∷ ws) n small (suc i) w e = all_next vs ws n.1 (λ j y f. small (suc j) y f) i w e

pub next_locks_begin : NextLocksBegin
next_locks_begin terms old new entries lines said noted begun a k next n =
    let rings : List Standing = rings_of old.locks in
    let f = (noted_lines terms rings old new lines said noted (begun_few old.locks begun) (followed_begun old.locks begun) a.noting a.answers (kept_bounded new.locks entries k)).notes.followed in
    all_next new.locks next n (λ i v e. (f.each i v e).2.small)
