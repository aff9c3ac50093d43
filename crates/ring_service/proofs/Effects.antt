-- The effect of a turn on the rings: nothing, a growth of one history, or a survey that a seat was given.
use Rattle.std.proofs.Common.{◌≡◌, ℕ, zero, suc, ◌+◌, ◌<◌, ◌≤◌, Bool, true, false, if◌then◌else◌, ltb, List, [], ◌∷◌, length, Option, Some, None, refl, sym, ap, subst, ◌∙◌, ◌⊎◌, inl, inr, arith, slice_get, slice_set, ◌≢◌}
use Rattle.std.proofs.lemmas.Bool.{lt-ltb}
use Rattle.ring_model.specs.Limits.{event_limit}
use Rattle.ring_model.specs.Resources.{till}
use Rattle.ring_model.specs.Ring.{is_privileged, IsRing}
use Rattle.ring_model.specs.History.{State, StepOf, next, reply, IsLegal}
use Rattle.ring_model.specs.Groups.{move_order}
use Rattle.ring_model.specs.GroupLaws.{CanMove, AreAllPrivileged, block_of}
use Rattle.ring_model.specs.declared.events.Op.{Op}
use Rattle.ring_model.specs.declared.events.Op.TheVariants as op
use Rattle.ring_model.specs.declared.events.Reply.{Reply}
use Rattle.ring_model.specs.declared.events.Reply.TheVariants as reply_is
use Rattle.ring_model.specs.declared.events.Event.{Event}
use Rattle.endless_ring.specs.Endless.{EndlessView, IsEndless}
use Rattle.journal.specs.ContentAfter.{event_is_open}
use Rattle.one_thread_ring.specs.SavedOf.{saved_event}
use Rattle.ring_service.specs.Commands.{Command, pass, try, group, corrupt, survey, glance, save, heard, ring_of}
use Rattle.ring_service.specs.Standings.{Standing, standing_of, state_of, with_events, with_survey, survey_now, block_now, event_now}
use Rattle.ring_service.specs.declared.answers.Refusal.TheVariants as refusal
use Rattle.ring_service.specs.Turns.{Turn, events, surveyed, refused, unless, passed, waits, turn_at, turn_among, turn_of, placed, is_off, heard_turn, IsTurn, IsTurnOfLine, bounds_now}
use Rattle.one_thread_ring.specs.Refusals.{seat_refusal, place_refusal, pass_refusal, corrupt_refusal, group_refusal}
use Rattle.one_thread_ring.specs.declared.errors.CallError.{CallError}
use Rattle.one_thread_ring.proofs.Refusals.{seat_bounds, pass_bounds, corrupt_bounds, group_bounds}
use Rattle.ring_service.specs.Saved.{IsRight}
use Rattle.ring_model.proofs.Blocks.{blocks_are_legal}
use Rattle.ring_model.proofs.Orders.{move_order_law}
use Rattle.std.specs.List.{AllByRecursion}
use Rattle.ring_service.proofs.Turning.{call_right, survey_right, group_right}

-- each of the events but the last is a member with more to come, and the last is none
abbrev pub Closes : List Event → Type 0
Closes [] = ⊥
Closes (e ∷ []) = event_is_open (saved_event e) ≡ false
Closes (e ∷ f ∷ es) = (event_is_open (saved_event e) ≡ true) × Closes (f ∷ es)

-- the history of one ring grew, and a seat got the receipts
pub record Grew (ring : ℕ) (r : Standing) (turn : Turn Standing) : Type 0 where
  pub seat : ℕ
  pub es : List Event
  pub within : seat < length r.clients
  pub closes : Closes es
  pub right : IsRight (with_events r seat es)
  pub recorded : turn.recorded ≡ events ring es ∷ []
  pub leaves : turn.leaves ≡ with_events r seat es

-- a seat was given a survey
pub record Looked (ring : ℕ) (r : Standing) (turn : Turn Standing) : Type 0 where
  pub seat : ℕ
  pub within : seat < length r.clients
  pub right : IsRight (with_survey r seat (survey_now r))
  pub recorded : turn.recorded ≡ surveyed ring seat (survey_now r) ∷ []
  pub leaves : turn.leaves ≡ with_survey r seat (survey_now r)

abbrev pub Kept : {S : Type 0} → S → Turn S → Type 0
Kept s turn = (turn.recorded ≡ []) × (turn.leaves ≡ s)

abbrev pub Effect : ℕ → Standing → Turn Standing → Type 0
Effect ring r turn = Kept r turn ⊎ (Grew ring r turn ⊎ Looked ring r turn)

unless_effect : (ring : ℕ) (r : Standing) (q : Option CallError) (turn : Turn Standing) → (q ≡ None → Effect ring r turn) → Effect ring r (unless q r turn)
unless_effect ring r None turn f = f refl
unless_effect ring r (Some why) turn f = inl (refl, refl)

-- ---- one of many

some_none : {X : Type 0} (x : X) → Some x ≡ None → ⊥
some_none x e = cc

some_one : {X : Type 0} (x y : X) → Some x ≡ Some y → x ≡ y
some_one x y e = cc

pub right_at : (rings : List Standing) (i : ℕ) (r : Standing) → AllByRecursion IsRight rings → slice_get rings i ≡ Some r → IsRight r
right_at [] i r all e = absurd (some_none r (sym e))
right_at (x ∷ rings) zero r all e = subst IsRight (some_one x r e) all.0
right_at (x ∷ rings) (suc i) r all e = right_at rings i r all.1 e

pub set_same : (rings : List Standing) (i : ℕ) (r : Standing) → slice_get rings i ≡ Some r → slice_set rings i r ≡ rings
set_same [] i r e = refl
set_same (x ∷ rings) zero r e = ap (λ (y : Standing). y ∷ rings) (sym (some_one x r e))
set_same (x ∷ rings) (suc i) r e = ap (λ (xs : List Standing). x ∷ xs) (set_same rings i r e)

all_set : (rings : List Standing) (i : ℕ) (r : Standing) → AllByRecursion IsRight rings → IsRight r → AllByRecursion IsRight (slice_set rings i r)
all_set [] i r all one = tt
all_set (x ∷ rings) zero r all one = (one, all.1)
all_set (x ∷ rings) (suc i) r all one = (all.0, all_set rings i r all.1 one)

-- ---- the calls that are not refused

-- ---- a block closes

granted_open : (seat i order left : ℕ) (r : Reply) (a b : State ℕ) → StepOf till a (op.Member i order left) r b → event_is_open (saved_event (record { seat = seat; op = op.Member i order left; reply = r })) ≡ ltb 0 left
granted_open seat i order left (reply_is.Granted number result) a b h = refl
granted_open seat i order left reply_is.NotPrivileged a b h = absurd h
granted_open seat i order left (reply_is.Corrupted old) a b h = absurd h

pub block_closes : (a : State ℕ) (seat order : ℕ) (ms : List ℕ) → 1 ≤ length ms → IsLegal till a (block_of till a seat order ms) → Closes (block_of till a seat order ms)
block_closes a seat order [] some l = absurd (omega arith)
block_closes a seat order (m ∷ []) some l = granted_open seat m order 0 (reply till a (op.Member m order 0)) a (next till a (op.Member m order 0)) l.0
block_closes a seat order (m ∷ k ∷ ms) some l =
    let o : Op = op.Member m order (length (k ∷ ms)) in (
      granted_open seat m order (length (k ∷ ms)) (reply till a o) a (next till a o) l.0 ∙ lt-ltb 0 (length (k ∷ ms)) (omega arith),
      block_closes (next till a o) seat order (k ∷ ms) (omega arith) l.1,
    )

-- ---- the effect of a call of one ring

module _ (e : EndlessView) (k : IsEndless e) where
  abbrev r : Standing
  r = standing_of e

  abbrev size : ℕ
  size = length (state_of r).ring.values

  room_of : (h : ℕ) → h ≡ length e.ring.book.history → h ≢ event_limit → h < event_limit
  room_of h is ne = let most = k.ring.book.bounded in grind (arith, ne, most, is)

  pass_effect : (ring seat machine order : ℕ) → Effect ring r (turn_at r (pass ring seat machine order))
  pass_effect ring seat machine order = unless_effect ring r (pass_refusal (bounds_now r) seat machine) _ (λ q.
      let b = pass_bounds (bounds_now r) seat machine q in
      let within : seat < length r.clients = b.0 in
      inr (inl (record {
        seat = seat;
        es = event_now r seat (op.Pass machine order) ∷ [];
        within = within;
        closes = closes (reply till (state_of r) (op.Pass machine order));
        right = call_right e.base e.ring seat k.base k.ring within (op.Pass machine order) b.1 tt (room_of (length r.history) refl b.2);
        recorded = refl;
        leaves = refl;
      })))
    where
      closes : (x : Reply) → event_is_open (saved_event (record { seat = seat; op = op.Pass machine order; reply = x })) ≡ false
      closes (reply_is.Granted number result) = refl
      closes reply_is.NotPrivileged = refl
      closes (reply_is.Corrupted old) = refl

  try_effect : (ring seat machine order : ℕ) → Effect ring r (turn_at r (try ring seat machine order))
  try_effect ring seat machine order = go (is_privileged (state_of r).ring.values machine)
    where
      go : (privileged : Bool) → Effect ring r (if privileged then passed ring r seat machine order else unless (place_refusal (bounds_now r) seat machine) r (waits r))
      go true = pass_effect ring seat machine order
      go false = unless_effect ring r (place_refusal (bounds_now r) seat machine) (waits r) (λ q. inl (refl, refl))

  corrupt_effect : (ring seat machine value : ℕ) → Effect ring r (turn_at r (corrupt ring seat machine value))
  corrupt_effect ring seat machine value = unless_effect ring r (corrupt_refusal (bounds_now r) seat machine value) _ (λ q.
      let b = corrupt_bounds (bounds_now r) seat machine value q in
      let within : seat < length r.clients = b.0 in
      inr (inl (record {
        seat = seat;
        es = event_now r seat (op.Corrupt machine value) ∷ [];
        within = within;
        closes = refl;
        right = call_right e.base e.ring seat k.base k.ring within (op.Corrupt machine value) (b.1, b.2) tt (room_of (length r.history) refl b.3);
        recorded = refl;
        leaves = refl;
      })))

  survey_effect : (ring seat : ℕ) → Effect ring r (turn_at r (survey ring seat))
  survey_effect ring seat = unless_effect ring r (seat_refusal (bounds_now r) seat) _ (λ q.
      let within : seat < length r.clients = seat_bounds (bounds_now r) seat q in
      inr (inr (record { seat = seat; within = within; right = survey_right e.base e.ring seat k.base k.ring within; recorded = refl; leaves = refl })))

  group_effect : (ring seat order : ℕ) (machines : List ℕ) → Effect ring r (turn_at r (group ring seat order machines))
  group_effect ring seat order machines = unless_effect ring r (group_refusal (bounds_now r) seat machines) _ (λ q.
      let b = group_bounds (bounds_now r) seat machines q in
      let within : seat < length r.clients = b.0 in
      let can : CanMove (state_of r).ring.values machines = b.1 in
      let here : CanMove e.ring.book.now.ring.values machines = subst (λ (t : State ℕ). CanMove t.ring.values machines) k.ring.book.current can in
      let room : length e.ring.book.history + length machines ≤ event_limit = b.2 in
      inr (inl (record {
        seat = seat;
        es = block_now r seat order machines;
        within = within;
        closes = closes order machines can;
        right = group_right e.base e.ring seat order machines k.base k.ring within here room;
        recorded = refl;
        leaves = refl;
      })))
    where
      closes : (order : ℕ) (machines : List ℕ) → CanMove (state_of r).ring.values machines → Closes (block_now r seat order machines)
      closes order machines can =
          let law = move_order_law (length (state_of r).ring.values) machines can.rising can.some can.fewer in
          let able : AreAllPrivileged (state_of r).ring.values (move_order machines) = λ i h. can.able i (sym (law.same i) ∙ h) in
          let ring : IsRing (state_of r).ring = subst (λ (t : State ℕ). IsRing t.ring) (sym k.ring.book.current) k.ring.book.now_ring.ring in
          let size : length (move_order machines) ≡ length machines = law.size in
          let some = can.some in
          block_closes (state_of r) seat order (move_order machines) (omega (arith, size, some)) (blocks_are_legal till (state_of r) seat order (move_order machines) ring law.in_order able).0

  effect_at : (command : Command) → Effect (ring_of command) r (turn_at r command)
  effect_at (pass ring seat machine order) = pass_effect ring seat machine order
  effect_at (try ring seat machine order) = try_effect ring seat machine order
  effect_at (corrupt ring seat machine value) = corrupt_effect ring seat machine value
  effect_at (group ring seat order machines) = group_effect ring seat order machines
  effect_at (survey ring seat) = survey_effect ring seat
  effect_at (glance ring) = inl (refl, refl)
  effect_at (save name) = inl (refl, refl)

effect_of : (r : Standing) (command : Command) → IsRight r → Effect (ring_of command) r (turn_at r command)
effect_of r command k = subst (λ (x : Standing). Effect (ring_of command) x (turn_at x command)) k.2 (effect_at k.0 k.1 command)

-- ---- among all rings

-- one of the rings was changed, and what was recorded is its
pub record Changed (rings : List Standing) (turn : Turn (List Standing)) : Type 0 where
  pub ring : ℕ
  pub was : Standing
  pub there : slice_get rings ring ≡ Some was
  pub one : Turn Standing
  pub effect : Grew ring was one ⊎ Looked ring was one
  pub recorded : turn.recorded ≡ one.recorded
  pub leaves : turn.leaves ≡ slice_set rings ring one.leaves

abbrev pub EffectAmong : List Standing → Turn (List Standing) → Type 0
EffectAmong rings turn = Kept rings turn ⊎ Changed rings turn

among : (rings : List Standing) (command : Command) (x : Option Standing) → AllByRecursion IsRight rings → slice_get rings (ring_of command) ≡ x → EffectAmong rings (turn_among rings command x)
among rings command None all e = inl (refl, refl)
among rings command (Some r) all e = go (effect_of r command (right_at rings (ring_of command) r all e))
  where
    go : Effect (ring_of command) r (turn_at r command) → EffectAmong rings (placed rings (ring_of command) (turn_at r command))
    go (inl kept) = inl (kept.0, ap (λ (x : Standing). slice_set rings (ring_of command) x) kept.1 ∙ set_same rings (ring_of command) r e)
    go (inr changed) = inr (record { ring = ring_of command; was = r; there = e; one = turn_at r command; effect = changed; recorded = refl; leaves = refl })

-- a call of the rings
pub call_effect : (rings : List Standing) (command : Command) (turn : Turn (List Standing)) → AllByRecursion IsRight rings → IsTurn rings command turn → EffectAmong rings turn
call_effect rings command turn all (inl e) = subst (λ (t : Turn (List Standing)). EffectAmong rings t) (sym e) (among rings command (slice_get rings (ring_of command)) all refl)
call_effect rings command turn all (inr e) = subst (λ (t : Turn (List Standing)). EffectAmong rings t) (sym e) (inl (refl, refl))

heard_effect : (faults : Bool) (rings : List Standing) (x : Option Command) → AllByRecursion IsRight rings → EffectAmong rings (heard_turn faults rings x)
heard_effect faults rings (Some command) all = go (is_off faults command)
  where
    go : (off : Bool) → EffectAmong rings (if off then refused rings refusal.Off else turn_of rings command)
    go true = inl (refl, refl)
    go false = among rings command (slice_get rings (ring_of command)) all refl
heard_effect faults rings None all = inl (refl, refl)

pub turn_effect : (faults : Bool) (rings : List Standing) (line : List ℕ) (turn : Turn (List Standing)) → AllByRecursion IsRight rings → IsTurnOfLine faults rings line turn → EffectAmong rings turn
turn_effect faults rings line turn all (inl (inl h)) = subst (λ (t : Turn (List Standing)). EffectAmong rings t) (sym h.2) (heard_effect faults rings (heard h.0) all)
turn_effect faults rings line turn all (inl (inr h)) = subst (λ (t : Turn (List Standing)). EffectAmong rings t) (sym h.1) (inl (refl, refl))
turn_effect faults rings line turn all (inr e) = subst (λ (t : Turn (List Standing)). EffectAmong rings t) (sym e) (inl (refl, refl))

-- the rings are right after it
pub changed_right : (rings : List Standing) (turn : Turn (List Standing)) → AllByRecursion IsRight rings → EffectAmong rings turn → AllByRecursion IsRight turn.leaves
changed_right rings turn all (inl kept) = subst (λ (x : List Standing). AllByRecursion IsRight x) (sym kept.1) all
changed_right rings turn all (inr c) = subst (λ (x : List Standing). AllByRecursion IsRight x) (sym c.leaves) (all_set rings c.ring c.one.leaves all (one c.ring c.was c.one c.effect))
  where
    one : (ring : ℕ) (was : Standing) (t : Turn Standing) → Grew ring was t ⊎ Looked ring was t → IsRight t.leaves
    one ring was t (inl g) = subst IsRight (sym g.leaves) g.right
    one ring was t (inr l) = subst IsRight (sym l.leaves) l.right
