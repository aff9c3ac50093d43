-- The history of a lock is its ring's, and shows its holds; an input makes one event at most.
use Rattle.std.proofs.Common.{◌≡◌, ℕ, ◌+◌, ◌≤◌, List, [], ◌∷◌, ◌++◌, map, length, refl, sym, ◌∙◌, ap, subst, inl, inr, arith, Option, Some, None, is_some}
use Rattle.std.specs.Prelude.{if◌then◌else◌, slice_get, option_map, ◌⊎◌}
use Rattle.std.proofs.lemmas.Option.{slice_get-map}
use Rattle.ring_model.specs.Ring.{IsRing}
use Rattle.held_locks.specs.Grants.{most_passes}
use Rattle.ring_model.specs.History.{State, after, IsLegal}
use Rattle.ring_model.specs.Resources.{till}
use Rattle.ring_model.specs.declared.events.Event.{Event}
use Rattle.ring_model.proofs.Histories.{after-append, IsLegal-append}
use Rattle.held_locks.specs.declared.answers.Waiter.{Waiter}
use Rattle.held_locks.specs.declared.answers.Holder.{Holder}
use Rattle.held_locks.specs.declared.answers.Answer.{Answer}
use Rattle.held_locks.specs.Queues.{Lock, without}
use Rattle.held_locks.specs.Locks.{Ask, Mark, Call, Survey, Turn, granted, advanced, ended, joined, fault, Input, Asked, Restart, turn, step, step_at, restarted}
use Rattle.held_locks.specs.Promises.{IsRightLock, locks_after, names, marks_of, events_of, most_events, most_of_fault, OneEventEach, open_behind, open_after, Alternate, carries, SegmentsShowHolds, SegmentsRecover, CarriedChangesNothing, token_of, IsShown, HistoryShowsHolds, recovered, RestartsRecover}
use Rattle.held_locks.specs.Grants.{carried}
use Rattle.held_locks.proofs.Rings.{IsGood, carry_step, grant_step, grant_number, fault_is, fault_no_holds, fault_few, events_of_calls}
use Rattle.held_locks.proofs.Moves.{Move, Stays, Waits, Gets, Ends, Drops, Faults, IsEnd, Released, Left, IsAsking, Acquires, Tries, waiter, move_of}
use Rattle.held_locks.proofs.Changes.{Change, Moves, Stands, Restarts, one_step}
use Rattle.held_locks.proofs.Right.{right_step}

-- ---- one part of a history after another

pub events_append : (xs ys : List Mark) → events_of (xs ++ ys) ≡ events_of xs ++ events_of ys
events_append [] ys = refl
events_append (Call e ∷ xs) ys = ap (λ (x : List Event). e ∷ x) (events_append xs ys)
events_append (Survey seat ∷ xs) ys = events_append xs ys

pub open_append : (token : Option ℕ) (xs ys : List Mark) → open_after token (xs ++ ys) ≡ open_after (open_after token xs) ys
open_append token [] ys = refl
open_append token (Call e ∷ xs) ys = open_append (open_behind token e) xs ys
open_append token (Survey seat ∷ xs) ys = open_append None xs ys

pub alternate_append : (token : Option ℕ) (xs ys : List Mark) → Alternate token xs → Alternate (open_after token xs) ys → Alternate token (xs ++ ys)
alternate_append token [] ys a b = b
alternate_append token (Call e ∷ xs) ys a b = (a.0, a.1, alternate_append (open_behind token e) xs ys a.2 b)
alternate_append token (Survey seat ∷ xs) ys a b = (a.0, a.1, alternate_append None xs ys a.2 b)

pub shown_append : (l m k : Lock) (xs ys : List Mark) → IsShown l m xs → IsShown m k ys → IsShown l k (xs ++ ys)
shown_append l m k xs ys a b =
    let p : events_of (xs ++ ys) ≡ events_of xs ++ events_of ys = events_append xs ys in
    let legal : IsLegal till (after till l.ring (events_of xs)) (events_of ys) = subst (λ (x : State ℕ). IsLegal till x (events_of ys)) a.ring b.legal in
    let rest : Alternate (open_after (token_of l.holder) xs) ys = subst (λ (x : Option ℕ). Alternate x ys) a.open_hold b.alternate in record {
      legal = subst (λ (x : List Event). IsLegal till l.ring x) (sym p) (IsLegal-append till l.ring (events_of xs) (events_of ys) a.legal legal);
      ring = b.ring ∙ ap (λ (x : State ℕ). after till x (events_of ys)) a.ring ∙ sym (after-append till l.ring (events_of xs) (events_of ys)) ∙ ap (λ (x : List Event). after till l.ring x) (sym p);
      alternate = alternate_append (token_of l.holder) xs ys a.alternate rest;
      open_hold = b.open_hold ∙ ap (λ (x : Option ℕ). open_after x ys) a.open_hold ∙ sym (open_append (token_of l.holder) xs ys);
    }

-- ---- a step

unchanged : (l m : Lock) → m.ring ≡ l.ring → token_of m.holder ≡ token_of l.holder → IsShown l m []
unchanged l m e f = record { legal = tt; ring = e; alternate = tt; open_hold = f }

-- a grant while no hold is open
shown_granted : (a : State ℕ) (queue : List Waiter) (w : Waiter) → IsRing a.ring → IsShown (record { ring = a; queue = queue; holder = None }) (granted a queue w).lock (granted a queue w).marks
shown_granted a queue w g = record {
  legal = (grant_step a 0 w.label g, tt);
  ring = refl;
  alternate = ((λ e. (refl, ap (λ (x : Option ℕ). is_some x) (grant_number a w.label g))), (λ e. absurd (omega (arith, e))), tt);
  open_hold = sym (grant_number a w.label g);
}

shown_advanced : (a : State ℕ) (queue : List Waiter) → IsRing a.ring → IsShown (record { ring = a; queue = queue; holder = None }) (advanced a queue).lock (advanced a queue).marks
shown_advanced a [] g = record { legal = tt; ring = refl; alternate = tt; open_hold = refl }
shown_advanced a (w ∷ queue) g = let s = shown_granted a queue w g in record { legal = s.legal; ring = s.ring; alternate = s.alternate; open_hold = s.open_hold }

end_seat : (l : Lock) (c : ℕ) (h : Holder) (ask : Ask) (seat : ℕ) (queue : List Waiter) (answers : List (ℕ × Answer)) → IsEnd l c h ask seat queue answers → (seat ≡ 1) ⊎ (seat ≡ 2)
end_seat l c h ask seat queue answers (Released a b e f) = inl b
end_seat l c h ask seat queue answers (Left a b e f) = inr b

shown_ended : (l : Lock) (h : Holder) (queue : List Waiter) (seat : ℕ) (answers : List (ℕ × Answer)) → IsRing l.ring.ring → l.holder ≡ Some h → (seat ≡ 1) ⊎ (seat ≡ 2) → IsShown l (ended l.ring queue seat answers).lock (ended l.ring queue seat answers).marks
shown_ended l h queue seat answers g held is =
    let s = shown_advanced l.ring queue g in
    record { legal = s.legal; ring = s.ring; alternate = (ap (λ (x : Option Holder). is_some (token_of x)) held, is, s.alternate); open_hold = s.open_hold }

shown_move : (ls : List Lock) (at : ℕ) (l : Lock) (c : ℕ) (ask : Ask) (t : Turn) → IsRing l.ring.ring → Move ls l c ask t → IsShown l t.lock t.marks
shown_move ls at l c ask t g (Stays a q leave e) = subst (λ (x : Turn). IsShown l x.lock x.marks) (sym e) (unchanged l l refl refl)
shown_move ls at l c ask t g (Waits order k a held other free back e) = subst (λ (x : Turn). IsShown l x.lock x.marks) (sym e) (unchanged l (joined l (waiter c order) (Some k)).lock refl refl)
shown_move ls at l c ask t g (Gets order asking a e) =
    let s = shown_granted l.ring l.queue (waiter c order) g in
    let free : token_of l.holder ≡ None = ap (λ (x : Option Holder). token_of x) a in
    subst (λ (x : Turn). IsShown l x.lock x.marks) (sym e) (record {
      legal = s.legal;
      ring = s.ring;
      alternate = subst (λ (x : Option ℕ). Alternate x (granted l.ring l.queue (waiter c order)).marks) (sym free) s.alternate;
      open_hold = s.open_hold;
    })
shown_move ls at l c ask t g (Ends k seat queue answers held own is e) = subst (λ (x : Turn). IsShown l x.lock x.marks) (sym e) (shown_ended l k queue seat answers g held (end_seat l c k ask seat queue answers is))
shown_move ls at l c ask t g (Drops answers is e) = subst (λ (x : Turn). IsShown l x.lock x.marks) (sym e) (unchanged l (record l { queue = without c l.queue }) refl refl)
shown_move ls at l c ask t g (Faults i v a lt lk e) =
    let f = fault_is l.ring i v g lt lk in
    let n = fault_no_holds l.ring i v (token_of l.holder) in
    let p : events_of (map Call (fault l.ring i v)) ≡ fault l.ring i v = events_of_calls (fault l.ring i v) in
    subst (λ (x : Turn). IsShown l x.lock x.marks) (sym e) (record {
      legal = subst (λ (x : List Event). IsLegal till l.ring x) (sym p) f.legal;
      ring = ap (λ (x : List Event). after till l.ring x) (sym p);
      alternate = n.alternate;
      open_hold = sym n.same;
    })

restarted_token : (h : Option Holder) → token_of (option_map (λ (x : Holder). record { client = 0; token = x.token }) h) ≡ token_of h
restarted_token None = refl
restarted_token (Some h) = refl

shown_change : (ls : List Lock) (at : ℕ) (l : Lock) (i : Input) (m : Lock) (marks : List Mark) (answers : List (ℕ × Answer)) → IsRing l.ring.ring → Change ls at l i m marks answers → IsShown l m marks
shown_change ls at l i m marks answers g (Moves c ask t is move e f k) =
    subst (λ (x : Lock). IsShown l x marks) (sym e) (subst (λ (x : List Mark). IsShown l t.lock x) (sym f) (shown_move ls at l c ask t g move))
shown_change ls at l i m marks answers g (Stands c j ask is other e f k) =
    subst (λ (x : Lock). IsShown l x marks) (sym e) (subst (λ (x : List Mark). IsShown l l x) (sym f) (unchanged l l refl refl))
shown_change ls at l i m marks answers g (Restarts is e f k) =
    subst (λ (x : Lock). IsShown l x marks) (sym e) (subst (λ (x : List Mark). IsShown l (restarted l) x) (sym f) (unchanged l (restarted l) refl (restarted_token l.holder)))

-- ---- over the inputs

pub history_shows_holds : HistoryShowsHolds
history_shows_holds ls [] at l r e = (l, e, unchanged l l refl refl)
history_shows_holds ls (i ∷ is) at l r e =
    let s = one_step ls at l i e in
    let now : IsShown l s.lock (if names at i then (step ls i).marks else []) = shown_change ls at l i s.lock (if names at i then (step ls i).marks else []) (if names at i then (step ls i).answers else []) (r.each at l e).ring s.change in
    let more = history_shows_holds (step ls i).locks is at s.lock (right_step ls i r) s.there in
    (more.0, more.1, shown_append l s.lock more.0 (if names at i then (step ls i).marks else []) (marks_of at (step ls i).locks is) now more.2)

pub locks_append : (ls : List Lock) (is js : List Input) → locks_after ls (is ++ js) ≡ locks_after (locks_after ls is) js
locks_append ls [] js = refl
locks_append ls (i ∷ is) js = locks_append (step ls i).locks is js

abbrev zeroth : Option ℕ → Option Holder
zeroth token = option_map (λ (t : ℕ). record { client = 0; token = t }) token

of_nobody : (h : Option Holder) → option_map (λ (x : Holder). record { client = 0; token = x.token }) h ≡ zeroth (token_of h)
of_nobody None = refl
of_nobody (Some h) = refl

same_lock : (a b : State ℕ) (h k : Option Holder) → a ≡ b → h ≡ k → ◌≡◌ {A = Lock} (record { ring = a; queue = []; holder = h }) (record { ring = b; queue = []; holder = k })
same_lock a b h k e f = ap (λ (x : State ℕ). record { ring = x; queue = []; holder = h }) e ∙ ap (λ (x : Option Holder). record { ring = b; queue = []; holder = x }) f

recovers : (l m : Lock) (marks : List Mark) → IsShown l m marks → restarted m ≡ recovered l.ring (token_of l.holder) marks
recovers l m marks s =
    let holder : option_map (λ (x : Holder). record { client = 0; token = x.token }) m.holder ≡ zeroth (open_after (token_of l.holder) marks) = of_nobody m.holder ∙ ap zeroth s.open_hold in
    same_lock m.ring (after till l.ring (events_of marks)) (option_map (λ (x : Holder). record { client = 0; token = x.token }) m.holder) (zeroth (open_after (token_of l.holder) marks)) s.ring holder

pub restarts_recover : RestartsRecover
restarts_recover ls is at l r e =
    let h = history_shows_holds ls is at l r e in
    ap (λ (x : List Lock). slice_get x at) (locks_append ls is (Restart ∷ [])) ∙ slice_get-map restarted (locks_after ls is) at ∙ ap (λ (x : Option Lock). option_map restarted x) h.1 ∙ ap (λ (x : Lock). Some x) (recovers l h.0 (marks_of at ls is) h.2)

-- ---- segments

-- what is carried is legal, changes nothing, and opens the hold again
pub carried_shown : (l : Lock) → IsGood l.ring → IsShown (record l { holder = None }) l (carries l)
carried_shown l g = go l.holder refl
  where
    go : (h : Option Holder) → l.holder ≡ h → IsShown (record l { holder = None }) l (map Call (carried l.ring (token_of h)))
    go None e = unchanged (record l { holder = None }) l refl (ap (λ (x : Option Holder). token_of x) e)
    go (Some h) e =
        let c = carry_step l.ring h.token g in record {
          legal = (c.0, tt);
          ring = sym c.1;
          alternate = ((λ q. absurd (omega (arith, q))), (λ q. refl), tt);
          open_hold = ap (λ (x : Option Holder). token_of x) e;
        }

pub segments_show_holds : SegmentsShowHolds
segments_show_holds ls is at l r e =
    let m = history_shows_holds ls is at l r e in
    let right = r.each at l e in
    let begun = carried_shown l (record { ring = right.ring; settled = right.settled }) in
    (m.0, m.1, shown_append (record l { holder = None }) l m.0 (carries l) (marks_of at ls is) begun m.2)

pub segments_recover : SegmentsRecover
segments_recover ls is at l r e =
    let h = segments_show_holds ls is at l r e in
    ap (λ (x : List Lock). slice_get x at) (locks_append ls is (Restart ∷ [])) ∙ slice_get-map restarted (locks_after ls is) at ∙ ap (λ (x : Option Lock). option_map restarted x) h.1
    ∙ ap (λ (x : Lock). Some x) (recovers (record l { holder = None }) h.0 (carries l ++ marks_of at ls is) h.2)

pub carries_nothing : (l : Lock) → IsRightLock l → after till l.ring (events_of (carries l)) ≡ l.ring
carries_nothing l right = sym (carried_shown l (record { ring = right.ring; settled = right.settled })).ring

pub carried_changes_nothing : CarriedChangesNothing
carried_changes_nothing ls at l r e = carries_nothing l (r.each at l e)

-- ---- one event

few_advanced : (a : State ℕ) (queue : List Waiter) → length (events_of (advanced a queue).marks) ≤ 1
few_advanced a [] = omega arith
few_advanced a (w ∷ queue) = omega arith

one_to_ask : (ls : List Lock) (c i order : ℕ) (ask : Ask) → IsAsking ask order → 1 ≤ most_events ls (Asked c i ask)
one_to_ask ls c i order ask (Acquires e) = subst (λ (x : Ask). 1 ≤ most_events ls (Asked c i x)) (sym e) (omega arith)
one_to_ask ls c i order ask (Tries e) = subst (λ (x : Ask). 1 ≤ most_events ls (Asked c i x)) (sym e) (omega arith)

one_to_end : (ls : List Lock) (i : ℕ) (l : Lock) (c : ℕ) (h : Holder) (ask : Ask) (seat : ℕ) (queue : List Waiter) (answers : List (ℕ × Answer)) → IsEnd l c h ask seat queue answers → 1 ≤ most_events ls (Asked c i ask)
one_to_end ls i l c h ask seat queue answers (Released a b e f) = subst (λ (x : Ask). 1 ≤ most_events ls (Asked c i x)) (sym a) (omega arith)
one_to_end ls i l c h ask seat queue answers (Left a b e f) = subst (λ (x : Ask). 1 ≤ most_events ls (Asked c i x)) (sym a) (omega arith)

one_event_move : (ls : List Lock) (i : ℕ) (l : Lock) (c : ℕ) (ask : Ask) (t : Turn) → slice_get ls i ≡ Some l → Move ls l c ask t → length (events_of t.marks) ≤ most_events ls (Asked c i ask)
one_event_move ls i l c ask t at (Stays a q leave e) = subst (λ (x : Turn). length (events_of x.marks) ≤ most_events ls (Asked c i ask)) (sym e) (omega arith)
one_event_move ls i l c ask t at (Waits order k a held other free back e) = subst (λ (x : Turn). length (events_of x.marks) ≤ most_events ls (Asked c i ask)) (sym e) (omega arith)
one_event_move ls i l c ask t at (Gets order asking a e) = subst (λ (x : Turn). length (events_of x.marks) ≤ most_events ls (Asked c i ask)) (sym e) (one_to_ask ls c i order ask asking)
one_event_move ls i l c ask t at (Ends k seat queue answers held own is e) =
    let one : 1 ≤ most_events ls (Asked c i ask) = one_to_end ls i l c k ask seat queue answers is in
    let few : length (events_of (advanced l.ring queue).marks) ≤ 1 = few_advanced l.ring queue in
    subst (λ (x : Turn). length (events_of x.marks) ≤ most_events ls (Asked c i ask)) (sym e) (omega arith)
one_event_move ls i l c ask t at (Drops answers is e) = subst (λ (x : Turn). length (events_of x.marks) ≤ most_events ls (Asked c i ask)) (sym e) (omega arith)
one_event_move ls i l c ask t at (Faults k v a lt lk e) =
    let few : length (fault l.ring k v) ≤ 1 + most_passes (length l.ring.ring.values) = fault_few l.ring k v in
    let same : length (events_of (map Call (fault l.ring k v))) ≡ length (fault l.ring k v) = ap (λ (x : List Event). length x) (events_of_calls (fault l.ring k v)) in
    let most : most_events ls (Asked c i ask) ≡ 1 + most_passes (length l.ring.ring.values) = ap (λ (x : Ask). most_events ls (Asked c i x)) a ∙ ap (λ (x : Option Lock). most_of_fault x) at in
    subst (λ (x : Turn). length (events_of x.marks) ≤ most_events ls (Asked c i ask)) (sym e) (omega arith)

one_event_at : (ls : List Lock) (c i : ℕ) (ask : Ask) (w : Option Lock) → slice_get ls i ≡ w → length (events_of (step_at ls c i ask w).marks) ≤ most_events ls (Asked c i ask)
one_event_at ls c i ask None e = omega arith
one_event_at ls c i ask (Some l) e = one_event_move ls i l c ask (turn ls l c ask) e (move_of ls l c ask)

pub one_event_each : OneEventEach
one_event_each ls (Asked c i ask) = one_event_at ls c i ask (slice_get ls i) refl
one_event_each ls Restart = omega arith
