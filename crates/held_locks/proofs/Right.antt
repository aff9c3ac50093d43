-- What is right stays right, input by input.
use Rattle.std.proofs.Common.{◌≡◌, ◌≢◌, ℕ, ◌+◌, Bool, true, false, List, [], ◌∷◌, ◌++◌, map, length, refl, sym, ◌∙◌, ap, subst, inl, inr, Option, Some, None, is_some}
use Rattle.std.specs.Prelude.{◌||◌, ◌==◌, slice_get, slice_set, option_map, ◌⊎◌}
use Rattle.std.proofs.lemmas.Bool.{eqb-true, eq-eqb, ne_eqb, false≢true, true≢false, or_cases, or_left, or_right, both_ways}
use Rattle.std.proofs.lemmas.Option.{slice_get-map}
use Rattle.ring_model.specs.History.{State, after}
use Rattle.ring_model.specs.Resources.{till}
use Rattle.held_locks.specs.declared.answers.Waiter.{Waiter}
use Rattle.held_locks.specs.declared.answers.Holder.{Holder}
use Rattle.held_locks.specs.declared.answers.Answer.{Answer}
use Rattle.held_locks.specs.Queues.{Lock, stands, without, waits_for, client_of, holder_of}
use Rattle.held_locks.specs.Locks.{Ask, Turn, granted, advanced, fault, joined, turn, Input, Asked, Restart, step, step_at, restarted}
use Rattle.held_locks.specs.Promises.{AreApart, IsRightLock, AreRight, comes, ComesToAnEnd, EmptyQueuesAreRight, RightStays}
use Rattle.held_locks.proofs.Rings.{IsGood, grant_good, fault_is}
use Rattle.held_locks.proofs.Moves.{Move, Stays, Waits, Gets, Ends, Drops, Faults, IsEnd, Released, Left, waiter, move_of}
use Rattle.held_locks.proofs.Standing.{Once, get_set, waits_nowhere, nowhere_waits, stands_append, stood_before, apart_without, apart_push}
use Rattle.held_locks.proofs.Circles.{once_kept, ends_same, ends_empty, ends_passed, ends_joined}

no_holder : (h : Holder) → ◌≡◌ {A = Option Holder} (Some h) None → ⊥
no_holder h e = cc

is_none : (w : Option Lock) → is_some w ≡ false → w ≡ None
is_none None e = refl
is_none (Some l) e = absurd (true≢false e)

-- the queue with which a hold ends
queue_apart : (l : Lock) (c : ℕ) (h : Holder) (ask : Ask) (seat : ℕ) (queue : List Waiter) (answers : List (ℕ × Answer)) → IsEnd l c h ask seat queue answers → AreApart l.queue → AreApart queue
queue_apart l c h ask seat queue answers (Released a b e f) p = subst (λ (x : List Waiter). AreApart x) (sym e) p
queue_apart l c h ask seat queue answers (Left a b e f) p = subst (λ (x : List Waiter). AreApart x) (sym e) (apart_without c l.queue p)

queue_fewer : (l : Lock) (c : ℕ) (h : Holder) (ask : Ask) (seat : ℕ) (queue : List Waiter) (answers : List (ℕ × Answer)) → IsEnd l c h ask seat queue answers → (d : ℕ) → stands d queue ≡ true → stands d l.queue ≡ true
queue_fewer l c h ask seat queue answers (Released a b e f) d s = subst (λ (x : List Waiter). stands d x ≡ true) e s
queue_fewer l c h ask seat queue answers (Left a b e f) d s = stood_before c d l.queue (subst (λ (x : List Waiter). stands d x ≡ true) e s)

-- ---- the lock itself

good : (l : Lock) → IsRightLock l → IsGood l.ring
good l r = record { ring = r.ring; settled = r.settled }

right_granted : (a : State ℕ) (queue : List Waiter) (w : Waiter) → IsGood a → AreApart queue → IsRightLock (granted a queue w).lock
right_granted a queue w g p =
    let b = grant_good a w.label g in
    record { ring = b.ring; settled = b.settled; held = λ e. absurd (no_holder (record { client = w.client; token = a.grants + 1 }) e); apart = p }

right_advanced : (a : State ℕ) (queue : List Waiter) → IsGood a → AreApart queue → IsRightLock (advanced a queue).lock
right_advanced a [] g p = record { ring = g.ring; settled = g.settled; held = λ e. refl; apart = tt }
right_advanced a (w ∷ queue) g p = right_granted a queue w g p.1

empty_without : (c : ℕ) (queue : List Waiter) → queue ≡ [] → without c queue ≡ []
empty_without c queue e = ap (λ (x : List Waiter). without c x) e

pub right_turn : (ls : List Lock) (l : Lock) (c i : ℕ) (ask : Ask) (t : Turn) → AreRight ls → slice_get ls i ≡ Some l → Move ls l c ask t → IsRightLock t.lock
right_turn ls l c i ask t r at (Stays a q other e) = subst (λ (x : Turn). IsRightLock x.lock) (sym e) (r.each i l at)
right_turn ls l c i ask t r at (Waits order h a held other free back e) =
    let was = r.each i l at in
    let new : stands c l.queue ≡ false = waits_nowhere ls c i l (is_none (waits_for ls c) free) at in
    subst (λ (x : Turn). IsRightLock x.lock) (sym e) (record {
      ring = was.ring;
      settled = was.settled;
      held = λ q. absurd (no_holder h (sym held ∙ q));
      apart = apart_push l.queue (waiter c order) was.apart new;
    })
right_turn ls l c i ask t r at (Gets order asking a e) =
    let was = r.each i l at in
    subst (λ (x : Turn). IsRightLock x.lock) (sym e) (right_granted l.ring l.queue (waiter c order) (good l was) was.apart)
right_turn ls l c i ask t r at (Ends h seat queue answers held own is e) =
    let was = r.each i l at in
    subst (λ (x : Turn). IsRightLock x.lock) (sym e) (right_advanced l.ring queue (good l was) (queue_apart l c h ask seat queue answers is was.apart))
right_turn ls l c i ask t r at (Drops answers is e) =
    let was = r.each i l at in
    subst (λ (x : Turn). IsRightLock x.lock) (sym e) (record {
      ring = was.ring;
      settled = was.settled;
      held = λ q. empty_without c l.queue (was.held q);
      apart = apart_without c l.queue was.apart;
    })
right_turn ls l c i ask t r at (Faults k v a lt lk e) =
    let was = r.each i l at in
    let b = (fault_is l.ring k v was.ring lt lk).good in
    subst (λ (x : Turn). IsRightLock x.lock) (sym e) (record { ring = b.ring; settled = b.settled; held = was.held; apart = was.apart })

-- ---- the client that is new in its queue

advanced_fewer : (a : State ℕ) (queue : List Waiter) (d : ℕ) → stands d (advanced a queue).lock.queue ≡ true → stands d queue ≡ true
advanced_fewer a [] d s = s
advanced_fewer a (w ∷ queue) d s = or_right (w.client == d) (stands d queue) s

abbrev IsNoneNew : List Lock → Lock → Lock → Type 0
IsNoneNew ls l m = (d : ℕ) → stands d m.queue ≡ true → (stands d l.queue ≡ true) ⊎ (waits_for ls d ≡ None)

pushed : (queue : List Waiter) (w : Waiter) (d : ℕ) → stands d (queue ++ w ∷ []) ≡ true → (stands d queue ≡ true) ⊎ (w.client ≡ d)
pushed queue w d s = elim (or_cases (stands d queue) (stands d (w ∷ [])) (sym (stands_append d queue (w ∷ [])) ∙ s)) [
  | inl p ↦ inl p
  | inr p ↦ elim (or_cases (w.client == d) false p) [
    | inl q ↦ inr (eqb-true w.client d q)
    | inr q ↦ absurd (false≢true q)
  ]
]

none_new : (ls : List Lock) (l : Lock) (c i : ℕ) (ask : Ask) (t : Turn) → Move ls l c ask t → IsNoneNew ls l t.lock
none_new ls l c i ask t (Stays a q other e) = subst (λ (x : Turn). IsNoneNew ls l x.lock) (sym e) (λ d s. inl s)
none_new ls l c i ask t (Waits order h a held other free back e) = subst (λ (x : Turn). IsNoneNew ls l x.lock) (sym e) (λ d s. elim (pushed l.queue (waiter c order) d s) [
  | inl p ↦ inl p
  | inr p ↦ inr (subst (λ (x : ℕ). waits_for ls x ≡ None) p (is_none (waits_for ls c) free))
])
none_new ls l c i ask t (Gets order asking a e) = subst (λ (x : Turn). IsNoneNew ls l x.lock) (sym e) (λ d s. inl s)
none_new ls l c i ask t (Ends h seat queue answers held own is e) =
    subst (λ (x : Turn). IsNoneNew ls l x.lock) (sym e) (λ d s. inl (queue_fewer l c h ask seat queue answers is d (advanced_fewer l.ring queue d s)))
none_new ls l c i ask t (Drops answers is e) = subst (λ (x : Turn). IsNoneNew ls l x.lock) (sym e) (λ d s. inl (stood_before c d l.queue s))
none_new ls l c i ask t (Faults k v a lt lk e) = subst (λ (x : Turn). IsNoneNew ls l x.lock) (sym e) (λ d s. inl s)

-- ---- no circle

abbrev EndsWith : List Lock → ℕ → Lock → Type 0
EndsWith ls i m = (c : ℕ) → ComesToAnEnd (slice_set ls i m) (Some c)

others_stand : (c order : ℕ) (queue : List Waiter) (d : ℕ) → d ≢ c → stands d (queue ++ waiter c order ∷ []) ≡ stands d queue
others_stand c order queue d n =
    let p : (c == d) ≡ false = ne_eqb c d (λ q. n (sym q)) in
    stands_append d queue (waiter c order ∷ []) ∙ rw p (or_nothing (stands d queue))
  where
    or_nothing : (b : Bool) → (b || (false || false)) ≡ b
    or_nothing true = refl
    or_nothing false = refl

itself_stands : (c order : ℕ) (queue : List Waiter) → stands c (queue ++ waiter c order ∷ []) ≡ true
itself_stands c order queue = stands_append c queue (waiter c order ∷ []) ∙ or_right (stands c queue) (stands c (waiter c order ∷ [])) (or_left (c == c) false (eq-eqb c c refl))

advanced_ends : (ls : List Lock) (l : Lock) (i : ℕ) (queue : List Waiter) → AreRight ls → slice_get ls i ≡ Some l → ((d : ℕ) → stands d queue ≡ true → stands d l.queue ≡ true) → AreApart queue →
    Once (slice_set ls i (advanced l.ring queue).lock) → EndsWith ls i (advanced l.ring queue).lock
advanced_ends ls l i [] r at fewer apart again = ends_empty ls i l (advanced l.ring []).lock r.once again at (λ d. refl) r.ends
advanced_ends ls l i (w ∷ queue) r at fewer apart again =
    ends_passed ls i l (advanced l.ring (w ∷ queue)).lock r.once again at w.client refl apart.0 (fewer w.client (or_left (w.client == w.client) (stands w.client queue) (eq-eqb w.client w.client refl))) r.ends

ends_turn : (ls : List Lock) (l : Lock) (c i : ℕ) (ask : Ask) (t : Turn) → AreRight ls → slice_get ls i ≡ Some l → Move ls l c ask t → Once (slice_set ls i t.lock) → EndsWith ls i t.lock
ends_turn ls l c i ask t r at (Stays a q other e) again =
    subst (λ (x : Turn). EndsWith ls i x.lock) (sym e) (ends_same ls i l l r.once (subst (λ (x : Turn). Once (slice_set ls i x.lock)) e again) at refl (λ d s. s) r.ends)
ends_turn ls l c i ask t r at (Waits order h a held other free back e) again =
    subst (λ (x : Turn). EndsWith ls i x.lock) (sym e)
    (ends_joined ls i l (joined l (waiter c order) (Some h)).lock r.once (subst (λ (x : Turn). Once (slice_set ls i x.lock)) e again) at c h.client refl (ap client_of held)
    (itself_stands c order l.queue) (others_stand c order l.queue) (length ls) back r.ends)
ends_turn ls l c i ask t r at (Gets order asking a e) again =
    let empty : l.queue ≡ [] = (r.each i l at).held a in
    subst (λ (x : Turn). EndsWith ls i x.lock) (sym e)
    (ends_empty ls i l (granted l.ring l.queue (waiter c order)).lock r.once (subst (λ (x : Turn). Once (slice_set ls i x.lock)) e again) at
    (λ d. ap (λ (x : List Waiter). stands d x) empty) r.ends)
ends_turn ls l c i ask t r at (Ends h seat queue answers held own is e) again =
    subst (λ (x : Turn). EndsWith ls i x.lock) (sym e)
    (advanced_ends ls l i queue r at (queue_fewer l c h ask seat queue answers is) (queue_apart l c h ask seat queue answers is (r.each i l at).apart)
    (subst (λ (x : Turn). Once (slice_set ls i x.lock)) e again))
ends_turn ls l c i ask t r at (Drops answers is e) again =
    subst (λ (x : Turn). EndsWith ls i x.lock) (sym e)
    (ends_same ls i l (record l { queue = without c l.queue }) r.once (subst (λ (x : Turn). Once (slice_set ls i x.lock)) e again) at refl (λ d s. stood_before c d l.queue s) r.ends)
ends_turn ls l c i ask t r at (Faults k v a lt lk e) again =
    subst (λ (x : Turn). EndsWith ls i x.lock) (sym e)
    (ends_same ls i l (record l { ring = after till l.ring (fault l.ring k v) }) r.once (subst (λ (x : Turn). Once (slice_set ls i x.lock)) e again) at refl (λ d s. s) r.ends)

-- ---- a step

pub right_asked : (ls : List Lock) (l : Lock) (c i : ℕ) (ask : Ask) → AreRight ls → slice_get ls i ≡ Some l → AreRight (slice_set ls i (turn ls l c ask).lock)
right_asked ls l c i ask r at =
    let t : Turn = turn ls l c ask in
    let move : Move ls l c ask t = move_of ls l c ask in
    let once : Once (slice_set ls i t.lock) = once_kept ls i l t.lock r.once at (none_new ls l c i ask t move) in record {
      each = λ j m f. elim (get_set ls i j t.lock l m at f) [
        | inl p ↦ subst (λ (x : Lock). IsRightLock x) (sym p.1) (right_turn ls l c i ask t r at move)
        | inr p ↦ r.each j m p.1
      ];
      once = once;
      ends = ends_turn ls l c i ask t r at move once;
    }

-- locks whose queues are empty
pub right_empty : (ls : List Lock) → ((i : ℕ) (l : Lock) → slice_get ls i ≡ Some l → IsGood l.ring × (l.queue ≡ [])) → AreRight ls
right_empty ls h =
    let none : (c i : ℕ) (l : Lock) → slice_get ls i ≡ Some l → stands c l.queue ≡ false = λ c i l e. ap (λ (x : List Waiter). stands c x) (h i l e).1 in record {
      each = λ i l e. let p = h i l e in record { ring = p.0.ring; settled = p.0.settled; held = λ _. p.1; apart = subst (λ (x : List Waiter). AreApart x) (sym p.1) tt };
      once = λ c i j l m e f s t. absurd (both_ways (stands c l.queue) (none c i l e) s);
      ends = λ c. (1, ap (λ (x : Option ℕ). comes 0 ls x) (ap holder_of (nowhere_waits ls c (λ i l e. none c i l e))));
    }

restarted_is : (ls : List Lock) (i : ℕ) (m : Lock) (w : Option Lock) → slice_get ls i ≡ w → slice_get (map restarted ls) i ≡ Some m → (l : Lock) × (slice_get ls i ≡ Some l) × (m ≡ restarted l)
restarted_is ls i m None e f =
    let g : ◌≡◌ {A = Option Lock} None (Some m) = sym (ap (λ (x : Option Lock). option_map restarted x) e) ∙ sym (slice_get-map restarted ls i) ∙ f in
    absurd (no_lock m g)
  where
    no_lock : (m : Lock) → ◌≡◌ {A = Option Lock} None (Some m) → ⊥
    no_lock m g = cc
restarted_is ls i m (Some l) e f =
    let g : ◌≡◌ {A = Option Lock} (Some (restarted l)) (Some m) = sym (ap (λ (x : Option Lock). option_map restarted x) e) ∙ sym (slice_get-map restarted ls i) ∙ f in
    (l, e, sym (same_lock (restarted l) m g))
  where
    same_lock : (x y : Lock) → ◌≡◌ {A = Option Lock} (Some x) (Some y) → x ≡ y
    same_lock x y g = cc

pub right_restarted : (ls : List Lock) → AreRight ls → AreRight (map restarted ls)
right_restarted ls r = right_empty (map restarted ls) (λ i m e.
    let p = restarted_is ls i m (slice_get ls i) refl e in
    let was = r.each i p.0 p.1 in
    subst (λ (x : Lock). IsGood x.ring × (x.queue ≡ [])) (sym p.2) (record { ring = was.ring; settled = was.settled }, refl))

right_at : (ls : List Lock) (c i : ℕ) (ask : Ask) (w : Option Lock) → slice_get ls i ≡ w → AreRight ls → AreRight (step_at ls c i ask w).locks
right_at ls c i ask None e r = r
right_at ls c i ask (Some l) e r = right_asked ls l c i ask r e

pub right_step : (ls : List Lock) (i : Input) → AreRight ls → AreRight (step ls i).locks
right_step ls (Asked c i ask) r = right_at ls c i ask (slice_get ls i) refl r
right_step ls Restart r = right_restarted ls r

pub right_stays : RightStays
right_stays ls [] r = r
right_stays ls (i ∷ is) r = right_stays (step ls i).locks is (right_step ls i r)

pub empty_queues_are_right : EmptyQueuesAreRight
empty_queues_are_right ls h = right_empty ls (λ i l e. let p = h i l e in (record { ring = p.0; settled = p.1 }, p.2))
