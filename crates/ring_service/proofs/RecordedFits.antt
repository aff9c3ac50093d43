-- What turns record has lines in a journal.
use Rattle.std.proofs.Common.{◌≡◌, ℕ, ◌+◌, ◌-◌, ◌^◌, ◌<◌, ◌≤◌, Bool, true, false, if◌then◌else◌, min, List, [], ◌∷◌, ◌++◌, length, take, map, Option, Some, None, refl, sym, ap, subst, ◌∙◌, ◌⊎◌, inl, inr, arith, length-append, slice_get}
use Rattle.std.specs.Prelude.{nat_lt}
use Rattle.std.specs.Option.{option_map}
use Rattle.std.specs.List.{AllByRecursion, flat_map}
use Rattle.std.proofs.lemmas.Bool.{ltb-true}
use Rattle.std.proofs.lemmas.List.{take_all, length-set}
use Rattle.std.proofs.lemmas.Grind.{flat_map-append}
use Rattle.std.proofs.Math.Nat.{min-le_right}
use Rattle.std.proofs.lemmas.Option.{slice_get_within}
use Rattle.ring_model.specs.Limits.{event_limit, value_limit, seat_limit}
use Rattle.ring_model.specs.Ring.{Ring, IsRing, is_privileged, privileged_count, rest, bound}
use Rattle.ring_model.specs.Resources.{till, add_order}
use Rattle.ring_model.specs.History.{State, StepOf, next, after, opening, IsLegal}
use Rattle.ring_model.specs.Surveys.{calm, granted_count, survey_from}
use Rattle.ring_model.specs.Groups.{move_order}
use Rattle.ring_model.specs.GroupLaws.{block_of}
use Rattle.ring_model.specs.declared.events.Op.{Op}
use Rattle.ring_model.specs.declared.events.Op.TheVariants as op
use Rattle.ring_model.specs.declared.events.Reply.{Reply}
use Rattle.ring_model.specs.declared.events.Reply.TheVariants as reply_is
use Rattle.ring_model.specs.declared.events.Event.{Event}
use Rattle.ring_model.proofs.Below.{count_le}
use Rattle.ring_model.proofs.Bound.{rest_bounded, bound_small}
use Rattle.ring_model.proofs.Settled.{first_is}
use Rattle.ring_model.proofs.Histories.{IsLegal-back, grants-after, grants-next}
use Rattle.ring_model.proofs.Places.{kept_step}
use Rattle.ring_model.proofs.Orders.{move_order_law}
use Rattle.ring_model.proofs.Tallied.{few_grants, calm_few}
use Rattle.ring_state.specs.Sizes.{IsRingState}
use Rattle.saved_history.specs.Versions.{latest_version}
use Rattle.saved_history.specs.Spelling.{EventFits, SurveyFits}
use Rattle.journal.specs.declared.calls.JournalLine.{JournalLine}
use Rattle.journal.specs.Spelling.{JournalLineFits}
use Rattle.one_thread_ring.specs.SavedOf.{saved_event, saved_survey}
use Rattle.one_thread_ring.specs.Journals.{line_of_event, line_of_survey}
use Rattle.one_thread_ring.specs.Refusals.{pass_refusal, place_refusal, corrupt_refusal, group_refusal, seat_refusal}
use Rattle.one_thread_ring.specs.declared.errors.CallError.{CallError}
use Rattle.one_thread_ring.proofs.Refusals.{pass_bounds, corrupt_bounds, group_bounds}
use Rattle.text_lines.specs.LongNumbers.{in_32_bits, in_64_bits}
use Rattle.ring_service.specs.Commands.{Command, pass, try, group, corrupt, survey, glance, save, heard, ring_of}
use Rattle.ring_service.specs.Standings.{Standing, state_of, survey_now, with_events}
use Rattle.ring_service.specs.Saved.{IsRight}
use Rattle.ring_service.specs.Recording.{calls_of, AreTurns}
use Rattle.ring_service.specs.declared.answers.Refusal.TheVariants as refusal
use Rattle.ring_service.specs.Turns.{RingTrace, events, surveyed, Turn, refused, unless, passed, waits, turn_at, turn_among, turn_of, is_off, heard_turn, IsTurnOfLine, bounds_now}
use Rattle.ring_service.proofs.Effects.{Grew, Looked, Changed, EffectAmong, turn_effect, changed_right, right_at}
use Rattle.ring_service.proofs.RecordedBlocks.{right_numbered}

-- ---- the numbers of a call

abbrev pub SmallOp : Op → Type 0
SmallOp (op.Pass machine order) = order < 2 ^ 64
SmallOp (op.Member machine order left) = (order < 2 ^ 64) × (left < 2 ^ 32)
SmallOp (op.Corrupt machine value) = Unit {0}

abbrev pub SmallCall : Event → Type 0
SmallCall e = (e.seat < 2 ^ 32) × SmallOp e.op

abbrev AreSmall : List RingTrace → Type 0
AreSmall [] = Unit {0}
AreSmall (events ring es ∷ rs) = AllByRecursion SmallCall es × AreSmall rs
AreSmall (surveyed ring seat s ∷ rs) = AreSmall rs

-- ---- events

granted_fits : (amount order result : ℕ) → result ≡ add_order amount order → result < 2 ^ 64
granted_fits amount order result e =
    let most : min (amount + order) (2 ^ 64 - 1) ≤ 2 ^ 64 - 1 = min-le_right (amount + order) (2 ^ 64 - 1) in
    omega (arith, e, most)

event_fits : (a : State ℕ) (seat : ℕ) (o : Op) (r : Reply) (b : State ℕ) → IsRing a.ring → a.ring.k ≤ value_limit → a.grants + 1 < 2 ^ 64 → StepOf till a o r b → seat < 2 ^ 32 → SmallOp o →
    EventFits latest_version (saved_event (record { seat = seat; op = o; reply = r }))
event_fits a seat (op.Pass m order) (reply_is.Granted number result) b g most few h s small =
    let within = h.0 in
    let enough = g.enough in
    let n = h.2 in
    (s, omega (arith, within, enough, most), small, omega (arith, n, few), granted_fits a.content order result h.3)
event_fits a seat (op.Pass m order) reply_is.NotPrivileged b g most few h s small =
    let within = h.0 in
    let enough = g.enough in
    (s, omega (arith, within, enough, most), small)
event_fits a seat (op.Pass m order) (reply_is.Corrupted old) b g most few h s small = absurd h
event_fits a seat (op.Member m order left) (reply_is.Granted number result) b g most few h s small =
    let within = h.0 in
    let enough = g.enough in
    let n = h.2 in
    (omega arith, s, omega (arith, within, enough, most), small.0, small.1, omega (arith, n, few), granted_fits a.content order result h.3)
event_fits a seat (op.Member m order left) reply_is.NotPrivileged b g most few h s small = absurd h
event_fits a seat (op.Member m order left) (reply_is.Corrupted old) b g most few h s small = absurd h
event_fits a seat (op.Corrupt m v) (reply_is.Granted number result) b g most few h s small = absurd h
event_fits a seat (op.Corrupt m v) reply_is.NotPrivileged b g most few h s small = absurd h
event_fits a seat (op.Corrupt m v) (reply_is.Corrupted old) b g most few h s small =
    let within = h.0 in
    let enough = g.enough in
    let value = h.1 in
    let is = h.2 in
    let below = g.below m h.0 in
    (s, omega (arith, within, enough, most), omega (arith, value, most), omega (arith, is, below, most))

events_fit : (a : State ℕ) (es : List Event) → IsRing a.ring → a.ring.k ≤ value_limit → a.grants + length es < 2 ^ 64 → IsLegal till a es → AllByRecursion SmallCall es → AllByRecursion (λ (e : Event). EventFits latest_version (saved_event e)) es
events_fit a [] g most few l small = tt
events_fit a (e ∷ es) g most few l small =
    let kept = kept_step till a e.op e.reply l.0 g in
    let same : (next till a e.op).ring.k ≡ a.ring.k = kept.same in
    let grants : (next till a e.op).grants ≤ a.grants + 1 = grants-next till a e.op in (
      event_fits a e.seat e.op e.reply (next till a e.op) g most (omega (arith, few)) l.0 small.0.0 small.0.1,
      events_fit (next till a e.op) es kept.ring (omega (arith, same, most)) (omega (arith, grants, few)) l.1 small.1,
    )

event_lines_fit : (rings ring : ℕ) (es : List Event) → ring < rings → rings < 2 ^ 32 → AllByRecursion (λ (e : Event). EventFits latest_version (saved_event e)) es → AllByRecursion (JournalLineFits latest_version rings) (map (line_of_event ring) es)
event_lines_fit rings ring [] l few f = tt
event_lines_fit rings ring (e ∷ es) l few f = (record { small = omega (arith, l, few); ring = l; call = f.0 }, event_lines_fit rings ring es l few f.1)

-- ---- a ring that is right

pub record IsBounded (r : Standing) : Type 0 where
  pub ring : IsRingState (state_of r).ring
  pub legal : IsLegal till (opening r.start 0) r.history
  pub few : length r.history ≤ event_limit

pub bounded : (r : Standing) → IsRight r → IsBounded r
bounded r k = subst IsBounded k.2 (
    let book = k.1.ring.book in
    let most = book.bounded in
    record { ring = subst (λ (s : State ℕ). IsRingState s.ring) (sym book.current) book.now_ring; legal = book.legal; few = omega (arith, most) })

pub grew_fits : (rings ring : ℕ) (was : Standing) (turn : Turn Standing) → IsRight was → (g : Grew ring was turn) → ring < rings → rings < 2 ^ 32 → AllByRecursion SmallCall g.es → AllByRecursion (JournalLineFits latest_version rings) (map (line_of_event ring) g.es)
grew_fits rings ring was turn k g l few small =
    let old = bounded was k in
    let new = bounded (with_events was g.seat g.es) g.right in
    let a : State ℕ = state_of was in
    let legal : IsLegal till a g.es = IsLegal-back till (opening was.start 0) was.history g.es new.legal in
    let all : length (was.history ++ g.es) ≤ event_limit = new.few in
    let both : length (was.history ++ g.es) ≡ length was.history + length g.es = length-append was.history g.es in
    let grants : a.grants ≤ 0 + length was.history = grants-after till (opening was.start 0) was.history in
    event_lines_fit rings ring g.es l few (events_fit a g.es old.ring.ring old.ring.most (omega (arith, all, both, grants)) legal small)

survey_fits : (ring : Ring) (seat position calm : ℕ) → IsRingState ring → seat < seat_limit → position ≤ event_limit → calm ≤ position → SurveyFits (saved_survey seat (survey_from ring position calm))
survey_fits ring seat position calm k s p c =
    let n : ℕ = length ring.values in
    let two = k.ring.two in
    let most = k.most_machines in
    let count : privileged_count ring.values ≤ n = count_le (is_privileged ring.values) n in
    let first = (first_is ring.values (omega (arith, two))).0 in
    let low : rest ring ≤ bound n = rest_bounded ring k.ring in
    let small : bound n < 2 ^ 40 = bound_small n (omega (arith, most)) in
    record {
      seat = omega (arith, s);
      position = omega (arith, p);
      privileged = omega (arith, count, most);
      first = omega (arith, first, most);
      calm = omega (arith, c, p);
      rest = omega (arith, low, small);
    }

pub looked_fits : (rings ring seat : ℕ) (was : Standing) → IsRight was → seat < length was.clients → ring < rings → rings < 2 ^ 32 → JournalLineFits latest_version rings (line_of_survey ring seat (survey_now was))
looked_fits rings ring seat was k within l few =
    let b = bounded was k in
    let h : List Event = was.history in
    let clients : length was.clients ≤ seat_limit = (right_numbered was k).1 in
    let all : take (length h) h ≡ h = take_all (length h) h (omega arith) in
    let state : IsRingState (after till (opening was.start 0) (take (length h) h)).ring = subst (λ (x : List Event). IsRingState (after till (opening was.start 0) x).ring) (sym all) b.ring in
    let grants : granted_count h ≤ length h = few_grants h in
    let calms : calm h ≤ granted_count h = calm_few h in
    let low : calm (take (length h) h) ≤ length h = subst (λ (x : List Event). calm x ≤ length h) (sym all) (omega (arith, grants, calms)) in
    record {
      small = omega (arith, l, few);
      ring = l;
      call = survey_fits (after till (opening was.start 0) (take (length h) h)).ring seat (length h) (calm (take (length h) h)) state (omega (arith, within, clients)) b.few low;
    }

-- ---- what is heard of a command

abbrev IsSmall : Command → Type 0
IsSmall (pass ring seat machine order) = order < 2 ^ 64
IsSmall (try ring seat machine order) = order < 2 ^ 64
IsSmall (group ring seat order machines) = order < 2 ^ 64
IsSmall _ = Unit {0}

some_command : (c d : Command) → Some c ≡ Some d → c ≡ d
some_command c d e = cc

no_command : (d : Command) → None ≡ Some d → ⊥
no_command d e = cc

ordered : (n : ℕ) (f : ℕ → Command) (d : Command) → ((m : ℕ) → m < 2 ^ 64 → IsSmall (f m)) → option_map f (in_64_bits n) ≡ Some d → IsSmall d
ordered n f d small e = go (nat_lt n (2 ^ 64)) refl e
  where
    go : (b : Bool) → nat_lt n (2 ^ 64) ≡ b → option_map f (if b then Some n else None) ≡ Some d → IsSmall d
    go true t same = subst IsSmall (some_command (f n) d same) (small n (ltb-true n (2 ^ 64) t))
    go false t same = absurd (no_command d same)

heard_small : (c d : Command) → heard c ≡ Some d → IsSmall d
heard_small (pass ring seat machine order) d e = ordered order (λ n. pass (in_32_bits ring) (in_32_bits seat) (in_32_bits machine) n) d (λ m l. l) e
heard_small (try ring seat machine order) d e = ordered order (λ n. try (in_32_bits ring) (in_32_bits seat) (in_32_bits machine) n) d (λ m l. l) e
heard_small (group ring seat order machines) d e = ordered order (λ n. group (in_32_bits ring) (in_32_bits seat) n (map in_32_bits machines)) d (λ m l. l) e
heard_small (corrupt ring seat machine value) d e = subst IsSmall (some_command (corrupt (in_32_bits ring) (in_32_bits seat) (in_32_bits machine) (in_32_bits value)) d e) tt
heard_small (survey ring seat) d e = subst IsSmall (some_command (survey (in_32_bits ring) (in_32_bits seat)) d e) tt
heard_small (glance ring) d e = subst IsSmall (some_command (glance (in_32_bits ring)) d e) tt
heard_small (save name) d e = subst IsSmall (some_command (save []) d e) tt

-- ---- what a turn records

block_small : (a : State ℕ) (seat order : ℕ) (ms : List ℕ) → seat < 2 ^ 32 → order < 2 ^ 64 → length ms ≤ 2 ^ 32 → AllByRecursion SmallCall (block_of till a seat order ms)
block_small a seat order [] s o few = tt
block_small a seat order (m ∷ ms) s o few = ((s, (o, omega (arith, few))), block_small (next till a (op.Member m order (length ms))) seat order ms s o (omega (arith, few)))

unless_small : (q : Option CallError) (r : Standing) (turn : Turn Standing) → (q ≡ None → AreSmall turn.recorded) → AreSmall (unless q r turn).recorded
unless_small None r turn f = f refl
unless_small (Some why) r turn f = tt

module _ (r : Standing) (k : IsRight r) where
  seated : (seat : ℕ) → seat < length r.clients → seat < 2 ^ 32
  seated seat l = let few = (right_numbered r k).1 in omega (arith, l, few)

  passed_small : (ring seat machine order : ℕ) → order < 2 ^ 64 → AreSmall (passed ring r seat machine order).recorded
  passed_small ring seat machine order o = unless_small (pass_refusal (bounds_now r) seat machine) r _ (λ q. (((seated seat (pass_bounds (bounds_now r) seat machine q).0, o), tt), tt))

  try_small : (ring seat machine order : ℕ) → order < 2 ^ 64 → AreSmall (turn_at r (try ring seat machine order)).recorded
  try_small ring seat machine order o = go (is_privileged (state_of r).ring.values machine)
    where
      go : (privileged : Bool) → AreSmall (if privileged then passed ring r seat machine order else unless (place_refusal (bounds_now r) seat machine) r (waits r)).recorded
      go true = passed_small ring seat machine order o
      go false = unless_small (place_refusal (bounds_now r) seat machine) r (waits r) (λ q. tt)

  group_small : (ring seat order : ℕ) (machines : List ℕ) → order < 2 ^ 64 → AreSmall (turn_at r (group ring seat order machines)).recorded
  group_small ring seat order machines o = unless_small (group_refusal (bounds_now r) seat machines) r _ (λ q.
      let b = group_bounds (bounds_now r) seat machines q in
      let can = b.1 in
      let law = move_order_law (length (state_of r).ring.values) machines can.rising can.some can.fewer in
      let size = law.size in
      let fewer = can.fewer in
      let most = (bounded r k).ring.most_machines in
      (block_small (state_of r) seat order (move_order machines) (seated seat b.0) o (omega (arith, size, fewer, most)), tt))

  small_at : (command : Command) → IsSmall command → AreSmall (turn_at r command).recorded
  small_at (pass ring seat machine order) o = passed_small ring seat machine order o
  small_at (try ring seat machine order) o = try_small ring seat machine order o
  small_at (group ring seat order machines) o = group_small ring seat order machines o
  small_at (corrupt ring seat machine value) o = unless_small (corrupt_refusal (bounds_now r) seat machine value) r _ (λ q. (((seated seat (corrupt_bounds (bounds_now r) seat machine value q).0, tt), tt), tt))
  small_at (survey ring seat) o = unless_small (seat_refusal (bounds_now r) seat) r _ (λ q. tt)
  small_at (glance ring) o = tt
  small_at (save name) o = tt

among_small : (rings : List Standing) (command : Command) (x : Option Standing) → AllByRecursion IsRight rings → IsSmall command → slice_get rings (ring_of command) ≡ x → AreSmall (turn_among rings command x).recorded
among_small rings command None all o e = tt
among_small rings command (Some r) all o e = small_at r (right_at rings (ring_of command) r all e) command o

small_heard : (faults : Bool) (rings : List Standing) (x : Option Command) → AllByRecursion IsRight rings → ((d : Command) → x ≡ Some d → IsSmall d) → AreSmall (heard_turn faults rings x).recorded
small_heard faults rings (Some command) all o = go (is_off faults command)
  where
    go : (off : Bool) → AreSmall (if off then refused rings refusal.Off else turn_of rings command).recorded
    go true = tt
    go false = among_small rings command (slice_get rings (ring_of command)) all (o command refl) refl
small_heard faults rings None all o = tt

turn_small : (faults : Bool) (rings : List Standing) (line : List ℕ) (turn : Turn (List Standing)) → AllByRecursion IsRight rings → IsTurnOfLine faults rings line turn → AreSmall turn.recorded
turn_small faults rings line turn all (inl (inl h)) = subst (λ (t : Turn (List Standing)). AreSmall t.recorded) (sym h.2) (small_heard faults rings (heard h.0) all (heard_small h.0))
turn_small faults rings line turn all (inl (inr h)) = subst (λ (t : Turn (List Standing)). AreSmall t.recorded) (sym h.1) tt
turn_small faults rings line turn all (inr e) = subst (λ (t : Turn (List Standing)). AreSmall t.recorded) (sym e) tt

-- ---- the calls of a turn

abbrev Fit : List Standing → List JournalLine → Type 0
Fit rings calls = AllByRecursion (JournalLineFits latest_version (length rings)) calls

pub all_then : {A : Type 0} (P : A → Type 0) (xs ys : List A) → AllByRecursion P xs → AllByRecursion P ys → AllByRecursion P (xs ++ ys)
all_then P [] ys a b = b
all_then P (x ∷ xs) ys a b = (a.0, all_then P xs ys a.1 b)

module _ (rings : List Standing) (all : AllByRecursion IsRight rings) (few : length rings < 2 ^ 32) where
  changed_fit : (turn : Turn (List Standing)) → Changed rings turn → AreSmall turn.recorded → Fit rings (flat_map calls_of turn.recorded)
  changed_fit turn c small = go c.effect
    where
      was_right : IsRight c.was
      was_right = right_at rings c.ring c.was all c.there

      within : c.ring < length rings
      within = slice_get_within rings c.ring c.was c.there

      go : Grew c.ring c.was c.one ⊎ Looked c.ring c.was c.one → Fit rings (flat_map calls_of turn.recorded)
      go (inl g) =
          let is : turn.recorded ≡ events c.ring g.es ∷ [] = c.recorded ∙ g.recorded in
          let each = (subst AreSmall is small).0 in
          subst (λ (x : List RingTrace). Fit rings (flat_map calls_of x)) (sym is)
          (all_then (JournalLineFits latest_version (length rings)) (map (line_of_event c.ring) g.es) [] (grew_fits (length rings) c.ring c.was c.one was_right g within few each) tt)
      go (inr l) =
          let is : turn.recorded ≡ surveyed c.ring l.seat (survey_now c.was) ∷ [] = c.recorded ∙ l.recorded in
          subst (λ (x : List RingTrace). Fit rings (flat_map calls_of x)) (sym is) (looked_fits (length rings) c.ring l.seat c.was was_right l.within within few, tt)

  effect_fit : (turn : Turn (List Standing)) → EffectAmong rings turn → AreSmall turn.recorded → Fit rings (flat_map calls_of turn.recorded)
  effect_fit turn (inl kept) small = subst (λ (x : List RingTrace). Fit rings (flat_map calls_of x)) (sym kept.0) tt
  effect_fit turn (inr c) small = changed_fit turn c small

  pub turn_fits : (faults : Bool) (line : List ℕ) (turn : Turn (List Standing)) → IsTurnOfLine faults rings line turn → AllByRecursion (JournalLineFits latest_version (length rings)) (flat_map calls_of turn.recorded)
  turn_fits faults line turn t = effect_fit turn (turn_effect faults rings line turn all t) (turn_small faults rings line turn all t)

-- ---- those of many turns

many_left : (rings : List Standing) (turn : Turn (List Standing)) → EffectAmong rings turn → length turn.leaves ≡ length rings
many_left rings turn (inl kept) = ap (λ (x : List Standing). length x) kept.1
many_left rings turn (inr c) = ap (λ (x : List Standing). length x) c.leaves ∙ length-set rings c.ring c.one.leaves

pub turns_fit : (faults : Bool) (old : List Standing) (lines : List (List ℕ)) (records : List RingTrace) (new : List Standing) → AllByRecursion IsRight old → length old < 2 ^ 32 → AreTurns faults old lines records new →
    AllByRecursion (JournalLineFits latest_version (length old)) (flat_map calls_of records)
turns_fit faults old [] records new all few t = subst (λ (x : List RingTrace). Fit old (flat_map calls_of x)) (sym t.0) tt
turns_fit faults old (line ∷ lines) records new all few t =
    let turn : Turn (List Standing) = t.0 in
    let effect = turn_effect faults old line turn all t.2 in
    let many : length turn.leaves ≡ length old = many_left old turn effect in
    let later = turns_fit faults turn.leaves lines t.1 new (changed_right old turn all effect) (omega (arith, few, many)) t.4 in
    let each : AllByRecursion (JournalLineFits latest_version (length old)) (flat_map calls_of turn.recorded ++ flat_map calls_of t.1) =
    all_then (JournalLineFits latest_version (length old)) (flat_map calls_of turn.recorded) (flat_map calls_of t.1) (turn_fits old all few faults line turn t.2)
    (subst (λ (n : ℕ). AllByRecursion (JournalLineFits latest_version n) (flat_map calls_of t.1)) many later) in
    subst (λ (x : List RingTrace). Fit old (flat_map calls_of x)) (sym t.3) (subst (λ (x : List JournalLine). Fit old x) (sym (flat_map-append calls_of turn.recorded t.1)) each)
