-- No line is refused since a history is full, while no ring is short.
use Rattle.std.proofs.Common.{◌≡◌, ℕ, zero, suc, ◌+◌, ◌-◌, ◌<◌, ◌≤◌, Bool, true, false, if◌then◌else◌, ◌&&◌, ◌==◌, not, nat_lt, nat_le, List, [], ◌∷◌, length, Option, Some, None, refl, sym, ap, subst, inl, inr, arith, slice_get}
use Rattle.std.specs.List.{AllByRecursion}
use Rattle.std.proofs.lemmas.Bool.{or_parts, ltb-true, ltb-false, eqb-true, and_parts}
use Rattle.ring_model.specs.Limits.{machine_limit, event_limit}
use Rattle.ring_model.specs.Ring.{is_privileged}
use Rattle.ring_model.specs.History.{State, reply}
use Rattle.ring_model.specs.Resources.{till}
use Rattle.ring_model.specs.declared.events.Op.TheVariants as op
use Rattle.ring_model.specs.declared.events.Reply.{Reply}
use Rattle.ring_model.specs.declared.events.Reply.TheVariants as reply_is
use Rattle.ring_model.specs.Bases.{shifted_reply}
use Rattle.one_thread_ring.specs.Refusals.{Bounds, when, first_of, rise, first_without, unprivileged, seat_refusal, place_refusal, pass_refusal, corrupt_refusal, group_refusal}
use Rattle.one_thread_ring.specs.declared.errors.CallError.{CallError}
use Rattle.one_thread_ring.specs.declared.errors.CallError.TheVariants as call
use Rattle.one_thread_ring.proofs.Groups.{rise_is, rises_few}
use Rattle.ring_service.specs.Commands.{Command, pass, try, group, corrupt, survey, glance, save, heard, ring_of}
use Rattle.ring_service.specs.Standings.{Standing, state_of}
use Rattle.ring_service.specs.Saved.{IsRight}
use Rattle.ring_service.specs.Due.{is_short, has_short, NeverFull}
use Rattle.ring_service.specs.declared.answers.Answer.{Answer}
use Rattle.ring_service.specs.declared.answers.Answer.TheVariants as answer
use Rattle.ring_service.specs.declared.answers.Refusal.{Refusal}
use Rattle.ring_service.specs.declared.answers.Refusal.TheVariants as refusal
use Rattle.ring_service.specs.Turns.{Turn, refused, refusal_of, unless, answer_of, passed, waits, turn_at, turn_among, turn_of, is_off, heard_turn, bounds_now}
use Rattle.ring_service.proofs.Effects.{right_at}

abbrev full : Answer
full = answer.Refused refusal.HistoryFull

not_refused : (why : Refusal) → answer.Refused why ≡ full → why ≡ refusal.HistoryFull
not_refused why e = cc

only_full : (why : CallError) → refusal_of why ≡ refusal.HistoryFull → why ≡ call.HistoryFull
only_full call.NoSeat e = cc
only_full call.NoMachine e = cc
only_full call.NoValue e = cc
only_full call.NotRising e = cc
only_full call.WholeRing e = cc
only_full (call.NotPrivileged m) e = cc
only_full call.HistoryFull e = refl
only_full call.OutOfMemory e = cc

-- a call is refused so only if it is decided so, or it is answered so
unless_full : {S : Type 0} (q : Option CallError) (s : S) (turn : Turn S) → (q ≡ Some call.HistoryFull → ⊥) → (turn.answer ≡ full → ⊥) → (unless q s turn).answer ≡ full → ⊥
unless_full None s turn f g e = g e
unless_full (Some why) s turn f g e = f (ap (λ (x : CallError). Some x) (only_full why (not_refused (refusal_of why) e)))

-- ---- which refusal comes first

apart : (x : CallError) → (x ≡ call.HistoryFull → ⊥) → Some x ≡ Some call.HistoryFull → ⊥
apart x f e = f (inner x call.HistoryFull e)
  where
    inner : (a b : CallError) → Some a ≡ Some b → a ≡ b
    inner a b e = cc

nothing : None ≡ Some call.HistoryFull → ⊥
nothing e = cc

no_seat : call.NoSeat ≡ call.HistoryFull → ⊥
no_seat e = cc

no_machine : call.NoMachine ≡ call.HistoryFull → ⊥
no_machine e = cc

no_value : call.NoValue ≡ call.HistoryFull → ⊥
no_value e = cc

not_rising : call.NotRising ≡ call.HistoryFull → ⊥
not_rising e = cc

whole_ring : call.WholeRing ≡ call.HistoryFull → ⊥
whole_ring e = cc

not_privileged : (m : ℕ) → call.NotPrivileged m ≡ call.HistoryFull → ⊥
not_privileged m e = cc

-- a refusal in front is not this one
past : (applies : Bool) (why : CallError) (others : List (Option CallError)) → (why ≡ call.HistoryFull → ⊥) → first_of (when applies why ∷ others) ≡ Some call.HistoryFull → (applies ≡ false) × (first_of others ≡ Some call.HistoryFull)
past true why others f e = absurd (apart why f e)
past false why others f e = (refl, e)

past_privileges : (s : Option ℕ) (others : List (Option CallError)) → first_of (unprivileged s ∷ others) ≡ Some call.HistoryFull → first_of others ≡ Some call.HistoryFull
past_privileges None others e = e
past_privileges (Some m) others e = absurd (apart (call.NotPrivileged m) (not_privileged m) e)

last : (applies : Bool) → first_of (when applies call.HistoryFull ∷ []) ≡ Some call.HistoryFull → applies ≡ true
last true e = refl
last false e = absurd (nothing e)

seat_full : (b : Bounds) (seat : ℕ) → seat_refusal b seat ≡ Some call.HistoryFull → ⊥
seat_full b seat e = go (nat_le b.seats seat) e
  where
    go : (applies : Bool) → when applies call.NoSeat ≡ Some call.HistoryFull → ⊥
    go true e = apart call.NoSeat no_seat e
    go false e = nothing e

place_full : (b : Bounds) (seat machine : ℕ) → place_refusal b seat machine ≡ Some call.HistoryFull → ⊥
place_full b seat machine e =
    let s = past (nat_le b.seats seat) call.NoSeat _ no_seat e in
    nothing (past (nat_le (length b.ring.values) machine) call.NoMachine [] no_machine s.1).1

pass_full : (b : Bounds) (seat machine : ℕ) → pass_refusal b seat machine ≡ Some call.HistoryFull → b.events ≡ event_limit
pass_full b seat machine e =
    let s = past (nat_le b.seats seat) call.NoSeat _ no_seat e in
    let m = past (nat_le (length b.ring.values) machine) call.NoMachine _ no_machine s.1 in
    eqb-true b.events event_limit (last (b.events == event_limit) m.1)

corrupt_full : (b : Bounds) (seat machine value : ℕ) → corrupt_refusal b seat machine value ≡ Some call.HistoryFull → b.events ≡ event_limit
corrupt_full b seat machine value e =
    let s = past (nat_le b.seats seat) call.NoSeat _ no_seat e in
    let m = past (nat_le (length b.ring.values) machine) call.NoMachine _ no_machine s.1 in
    let v = past (nat_le b.ring.k value) call.NoValue _ no_value m.1 in
    eqb-true b.events event_limit (last (b.events == event_limit) v.1)

not_not : (b : Bool) → not b ≡ false → b ≡ true
not_not true e = refl
not_not false e = cc

group_full : (b : Bounds) (seat : ℕ) (machines : List ℕ) → group_refusal b seat machines ≡ Some call.HistoryFull → (length machines ≤ length b.ring.values) × (event_limit < b.events + length machines)
group_full b seat machines e =
    let size : ℕ = length b.ring.values in
    let s = past (nat_le b.seats seat) call.NoSeat _ no_seat e in
    let r = past (not (nat_lt 0 (length machines) && rise 0 size machines)) call.NotRising _ not_rising s.1 in
    let w = past (length machines == size) call.WholeRing _ whole_ring r.1 in
    let u = past_privileges (first_without b.ring.values machines) _ w.1 in
    let rises = and_parts (nat_lt 0 (length machines)) (rise 0 size machines) (not_not _ r.0) in
    let few : 0 + length machines ≤ size = rises_few 0 size machines (omega arith) (rise_is 0 size machines rises.1) in
    (omega (arith, few), ltb-true event_limit (b.events + length machines) (last (nat_lt event_limit (b.events + length machines)) u))

-- ---- answers that are not refusals

reply_full : (r : Reply) → answer_of r ≡ full → ⊥
reply_full (reply_is.Granted number result) e = cc
reply_full reply_is.NotPrivileged e = cc
reply_full (reply_is.Corrupted old) e = cc

-- ---- one ring

module _ (r : Standing) (right : IsRight r) (short : is_short r ≡ false) where
  room : length r.history ≤ event_limit - machine_limit
  room = let l = ltb-false (event_limit - machine_limit) (length r.history) short in omega (arith, l)

  not_at_limit : length r.history ≡ event_limit → ⊥
  not_at_limit e = let l = room in omega (arith, e, l)

  sized : length (state_of r).ring.values ≤ machine_limit
  sized = subst (λ (x : Standing). length (state_of x).ring.values ≤ machine_limit) right.2
      (subst (λ (a : State ℕ). length a.ring.values ≤ machine_limit) (sym right.1.ring.book.current) right.1.ring.book.now_ring.most_machines)

  passed_full : (ring seat machine order : ℕ) → (passed ring r seat machine order).answer ≡ full → ⊥
  passed_full ring seat machine order = unless_full (pass_refusal (bounds_now r) seat machine) r _ (λ q. not_at_limit (pass_full (bounds_now r) seat machine q)) (λ e. reply_full (shifted_reply r.base (reply till (state_of r) (op.Pass machine order))) e)

  command_full : (command : Command) → (turn_at r command).answer ≡ full → ⊥
  command_full (pass ring seat machine order) = passed_full ring seat machine order
  command_full (try ring seat machine order) = go (is_privileged (state_of r).ring.values machine)
    where
      go : (privileged : Bool) → (if privileged then passed ring r seat machine order else unless (place_refusal (bounds_now r) seat machine) r (waits r)).answer ≡ full → ⊥
      go true = passed_full ring seat machine order
      go false = unless_full (place_refusal (bounds_now r) seat machine) r (waits r) (place_full (bounds_now r) seat machine) (λ e. cc)
  command_full (corrupt ring seat machine value) =
      unless_full (corrupt_refusal (bounds_now r) seat machine value) r _ (λ q. not_at_limit (corrupt_full (bounds_now r) seat machine value q)) (λ e. reply_full (shifted_reply r.base (reply till (state_of r) (op.Corrupt machine value))) e)
  command_full (group ring seat order machines) =
      unless_full (group_refusal (bounds_now r) seat machines) r _ (λ q.
      let g = group_full (bounds_now r) seat machines q in
      let few = g.0 in
      let many = g.1 in
      let size = sized in
      let l = room in
      omega (arith, few, many, size, l)) (λ e. cc)
  command_full (survey ring seat) = unless_full (seat_refusal (bounds_now r) seat) r _ (seat_full (bounds_now r) seat) (λ e. cc)
  command_full (glance ring) = λ e. cc
  command_full (save name) = λ e. cc

-- ---- all rings

short_none : (rings : List Standing) (i : ℕ) (r : Standing) → has_short rings ≡ false → slice_get rings i ≡ Some r → is_short r ≡ false
short_none [] i r h e = absurd (none r e)
  where
    none : (r : Standing) → None ≡ Some r → ⊥
    none r e = cc
short_none (x ∷ rings) zero r h e = subst (λ (y : Standing). is_short y ≡ false) (one x r e) (or_parts (is_short x) (has_short rings) h).0
  where
    one : (a b : Standing) → Some a ≡ Some b → a ≡ b
    one a b e = cc
short_none (x ∷ rings) (suc i) r h e = short_none rings i r (or_parts (is_short x) (has_short rings) h).1 e

among_full : (rings : List Standing) (command : Command) (x : Option Standing) → AllByRecursion IsRight rings → has_short rings ≡ false → slice_get rings (ring_of command) ≡ x → (turn_among rings command x).answer ≡ full → ⊥
among_full rings command None all h e = λ f. cc
among_full rings command (Some r) all h e = command_full r (right_at rings (ring_of command) r all e) (short_none rings (ring_of command) r h e) command

heard_full : (faults : Bool) (rings : List Standing) (x : Option Command) → AllByRecursion IsRight rings → has_short rings ≡ false → (heard_turn faults rings x).answer ≡ full → ⊥
heard_full faults rings (Some command) all h = go (is_off faults command)
  where
    go : (off : Bool) → (if off then refused rings refusal.Off else turn_of rings command).answer ≡ full → ⊥
    go true = λ f. cc
    go false = among_full rings command (slice_get rings (ring_of command)) all h refl
heard_full faults rings None all h = λ f. cc

pub never_full : NeverFull
never_full faults rings line turn all h (inl (inl t)) = subst (λ (x : Turn (List Standing)). x.answer ≡ full → ⊥) (sym t.2) (heard_full faults rings (heard t.0) all h)
never_full faults rings line turn all h (inl (inr t)) = subst (λ (x : Turn (List Standing)). x.answer ≡ full → ⊥) (sym t.1) (λ f. cc)
never_full faults rings line turn all h (inr t) = subst (λ (x : Turn (List Standing)). x.answer ≡ full → ⊥) (sym t) (λ f. cc)
