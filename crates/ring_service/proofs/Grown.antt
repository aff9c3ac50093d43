-- Rings grow with each turn, and have the calls of the turns before.
use Rattle.std.proofs.Common.{◌≡◌, ℕ, zero, suc, Bool, true, false, if◌then◌else◌, List, [], ◌∷◌, ◌++◌, length, get_or, Option, Some, None, refl, sym, ap, subst, ◌∙◌, ◌⊎◌, inl, inr, arith, append_assoc, get_or-set_same, get_or-set_other, slice_get, slice_set}
use Rattle.std.proofs.lemmas.Bool.{cases_eq, cases_lt}
use Rattle.std.proofs.lemmas.List.{append-nil, set_past}
use Rattle.disks.specs.Held.{Held}
use Rattle.line_service.specs.Stands.{Stand}
use Rattle.ring_model.specs.Ring.{is_privileged}
use Rattle.ring_model.specs.Resources.{till}
use Rattle.ring_model.specs.History.{reply}
use Rattle.ring_model.specs.Groups.{move_order}
use Rattle.ring_model.specs.declared.events.Op.{Op}
use Rattle.ring_model.specs.declared.events.Op.TheVariants as op
use Rattle.ring_model.specs.declared.events.Reply.{Reply}
use Rattle.ring_model.specs.declared.events.Reply.TheVariants as reply_is
use Rattle.ring_model.specs.declared.events.Event.{Event}
use Rattle.ring_model.specs.declared.events.Entry.{Entry}
use Rattle.ring_model.specs.declared.events.Entry.TheVariants as entry
use Rattle.ring_model.proofs.Blocks.{block_members}
use Rattle.ring_model.proofs.Orders.{move_order_law}
use Rattle.ring_model.proofs.Wholes.{members_length}
use Rattle.ring_model.specs.Bases.{is_quiet, shifted_reply, shifted_survey}
use Rattle.ring_logs.specs.LogView.{LogView}
use Rattle.ring_logs.specs.Seats.{receipts_from}
use Rattle.one_thread_ring.specs.Rings.{grown, told_more}
use Rattle.one_thread_ring.specs.Refusals.{pass_refusal, place_refusal, corrupt_refusal, group_refusal, seat_refusal}
use Rattle.one_thread_ring.specs.declared.errors.CallError.{CallError}
use Rattle.one_thread_ring.proofs.Refusals.{group_bounds}
use Rattle.ring_service.specs.Commands.{Command, pass, try, group, corrupt, survey, glance, save, heard, ring_of}
use Rattle.ring_service.specs.Standings.{Standing, state_of, survey_now, event_now, block_now, with_events, with_survey}
use Rattle.ring_service.specs.declared.answers.Answer.{Answer}
use Rattle.ring_service.specs.declared.answers.Answer.TheVariants as answer
use Rattle.ring_service.specs.declared.answers.Refusal.{Refusal}
use Rattle.ring_service.specs.declared.answers.Refusal.TheVariants as refusal
use Rattle.ring_service.specs.Permits.{Terms}
use Rattle.ring_service.specs.Turns.{RingTrace, events, surveyed, Turn, refused, unless, answer_of, called, passed, grouped, waits, turn_at, turn_among, turn_of, placed, is_off, heard_turn, IsTurnOfLine, bounds_now}
use Rattle.ring_service.specs.Serving.{IsGiven, IsTurnOn, IsAnswered, Answers, name_in}
use Rattle.ring_service.specs.Recovered.{IsPrefix, log_of, HasGrown, HaveGrown, IsAnswerTo, TellsNoEvent, HasEvents, HasSurvey, IsCallIn, AreCallsIn}
use Rattle.ring_service.proofs.RecordedBlocks.{set_there}

-- ---- prefixes

pub all_of : {A : Type 0} (xs : List A) → IsPrefix xs xs
all_of {A} xs = ([], sym (append-nil xs))

pub prefix_then : {A : Type 0} (xs ys zs : List A) → IsPrefix xs ys → IsPrefix ys zs → IsPrefix xs zs
prefix_then {A} xs ys zs p q = (p.0 ++ q.0, q.1 ∙ ap (λ (u : List A). u ++ q.0) p.1 ∙ append_assoc xs p.0 q.0)

-- ---- the logs

abbrev log_at : List LogView → ℕ → List Entry
log_at cs i = (get_or cs i (record { number = i; log = [] })).log

log_more : (cs : List LogView) (seat : ℕ) (es : List Entry) (i : ℕ) → IsPrefix (log_at cs i) (log_at (told_more cs seat es) i)
log_more cs seat es i = elim (cases_eq i seat) [
  | inl e ↦ elim (cases_lt seat (length cs)) [
    | inl l ↦
        let nobody : LogView = record { number = i; log = [] } in
        let same : told_more cs seat es ≡ told_more cs i es = ap (λ (k : ℕ). told_more cs k es) (sym e) in
        let there : get_or (told_more cs i es) i nobody ≡ grown (get_or cs i nobody) es = get_or-set_same cs i (grown (get_or cs i nobody) es) nobody (omega (arith, l, e)) in
        (es, ap (λ (ts : List LogView). log_at ts i) same ∙ ap (λ (t : LogView). t.log) there)
    | inr l ↦
        let nobody : LogView = record { number = seat; log = [] } in
        let same : told_more cs seat es ≡ cs = set_past cs seat (grown (get_or cs seat nobody) es) l in
        ([], ap (λ (ts : List LogView). log_at ts i) same ∙ sym (append-nil (log_at cs i)))
  ]
  | inr ne ↦
      let nobody : LogView = record { number = i; log = [] } in
      let other : get_or (told_more cs seat es) i nobody ≡ get_or cs i nobody = get_or-set_other cs seat i (grown (get_or cs seat (record { number = seat; log = [] })) es) nobody ne in
      ([], ap (λ (t : LogView). t.log) other ∙ sym (append-nil (log_at cs i)))
]

-- ---- one ring

pub grown_same : (r : Standing) → HasGrown r r
grown_same r = record { base = refl; start = refl; history = all_of r.history; logs = λ seat. all_of (log_of r seat) }

pub grown_then : (r s t : Standing) → HasGrown r s → HasGrown s t → HasGrown r t
grown_then r s t p q = record {
  base = q.base ∙ p.base;
  start = q.start ∙ p.start;
  history = prefix_then r.history s.history t.history p.history q.history;
  logs = λ seat. prefix_then (log_of r seat) (log_of s seat) (log_of t seat) (p.logs seat) (q.logs seat);
}

pub with_more : (r : Standing) (seat : ℕ) (es : List Event) → HasGrown r (with_events r seat es)
with_more r seat es = record { base = refl; start = refl; history = (es, refl); logs = log_more r.clients seat (receipts_from (length r.history) es) }

pub looked_more : (r : Standing) (seat : ℕ) → HasGrown r (with_survey r seat (survey_now r))
looked_more r seat = record { base = refl; start = refl; history = all_of r.history; logs = log_more r.clients seat (entry.Survey (survey_now r) ∷ []) }

-- ---- all rings

pub have_same : (rs : List Standing) → HaveGrown rs rs
have_same [] = refl
have_same (r ∷ rs) = (grown_same r, have_same rs)

pub have_then : (rs ss ts : List Standing) → HaveGrown rs ss → HaveGrown ss ts → HaveGrown rs ts
have_then [] ss ts a b = subst (λ (x : List Standing). HaveGrown x ts) a b
have_then (r ∷ rs) [] ts a b = absurd a
have_then (r ∷ rs) (s ∷ ss) [] a b = absurd b
have_then (r ∷ rs) (s ∷ ss) (t ∷ ts) a b = (grown_then r s t a.0 b.0, have_then rs ss ts a.1 b.1)

some_one : (x y : Standing) → Some x ≡ Some y → x ≡ y
some_one x y e = cc

some_none : (x : Standing) → None ≡ Some x → ⊥
some_none x e = cc

pub have_set : (rs : List Standing) (i : ℕ) (r s : Standing) → slice_get rs i ≡ Some r → HasGrown r s → HaveGrown rs (slice_set rs i s)
have_set [] i r s e g = refl
have_set (x ∷ rs) zero r s e g = (subst (λ (y : Standing). HasGrown y s) (sym (some_one x r e)) g, have_same rs)
have_set (x ∷ rs) (suc i) r s e g = (grown_same x, have_set rs i r s e g)

pub grown_at : (rs ss : List Standing) (i : ℕ) (r : Standing) → HaveGrown rs ss → slice_get rs i ≡ Some r → (s : Standing) × (slice_get ss i ≡ Some s) × HasGrown r s
grown_at [] ss i r h e = absurd (some_none r e)
grown_at (x ∷ rs) [] i r h e = absurd h
grown_at (x ∷ rs) (s ∷ ss) zero r h e = (s, refl, subst (λ (y : Standing). HasGrown y s) (some_one x r e) h.0)
grown_at (x ∷ rs) (s ∷ ss) (suc i) r h e = grown_at rs ss i r h.1 e

-- ---- what a turn of one ring leaves and answers

abbrev Nothing : Standing → Turn Standing → Type 0
Nothing r turn = (turn.recorded ≡ []) × (turn.leaves ≡ r) × TellsNoEvent turn.answer

record More (ring : ℕ) (r : Standing) (turn : Turn Standing) : Type 0 where
  pub seat : ℕ
  pub es : List Event
  pub recorded : turn.recorded ≡ events ring es ∷ []
  pub leaves : turn.leaves ≡ with_events r seat es
  pub told : IsAnswerTo r es turn.answer

record Look (ring : ℕ) (r : Standing) (turn : Turn Standing) : Type 0 where
  pub seat : ℕ
  pub recorded : turn.recorded ≡ surveyed ring seat (survey_now r) ∷ []
  pub leaves : turn.leaves ≡ with_survey r seat (survey_now r)
  pub told : turn.answer ≡ answer.Survey (shifted_survey r.base (is_quiet r.history) (survey_now r))

abbrev Outcome : ℕ → Standing → Turn Standing → Type 0
Outcome ring r turn = Nothing r turn ⊎ (More ring r turn ⊎ Look ring r turn)

unless_told : (ring : ℕ) (r : Standing) (q : Option CallError) (turn : Turn Standing) → (q ≡ None → Outcome ring r turn) → Outcome ring r (unless q r turn)
unless_told ring r None turn f = f refl
unless_told ring r (Some why) turn f = inl (refl, refl, tt)

reply_told : (r : Standing) (e : Event) (x : Reply) → x ≡ e.reply → IsAnswerTo r (e ∷ []) (answer_of (shifted_reply r.base x))
reply_told r e (reply_is.Granted number result) s = (e, refl, ap (λ (y : Reply). answer_of (shifted_reply r.base y)) s)
reply_told r e reply_is.NotPrivileged s = (e, refl, ap (λ (y : Reply). answer_of (shifted_reply r.base y)) s)
reply_told r e (reply_is.Corrupted old) s = (e, refl, ap (λ (y : Reply). answer_of (shifted_reply r.base y)) s)

called_told : (ring : ℕ) (r : Standing) (seat : ℕ) (o : Op) → Outcome ring r (called ring r seat o)
called_told ring r seat o = inr (inl (record {
  seat = seat;
  es = event_now r seat o ∷ [];
  recorded = refl;
  leaves = refl;
  told = reply_told r (event_now r seat o) (reply till (state_of r) o) refl;
}))

passed_told : (ring : ℕ) (r : Standing) (seat machine order : ℕ) → Outcome ring r (passed ring r seat machine order)
passed_told ring r seat machine order = unless_told ring r (pass_refusal (bounds_now r) seat machine) (called ring r seat (op.Pass machine order)) (λ q. called_told ring r seat (op.Pass machine order))

try_told : (ring : ℕ) (r : Standing) (seat machine order : ℕ) → Outcome ring r (turn_at r (try ring seat machine order))
try_told ring r seat machine order = go (is_privileged (state_of r).ring.values machine)
  where
    go : (privileged : Bool) → Outcome ring r (if privileged then passed ring r seat machine order else unless (place_refusal (bounds_now r) seat machine) r (waits r))
    go true = passed_told ring r seat machine order
    go false = unless_told ring r (place_refusal (bounds_now r) seat machine) (waits r) (λ q. inl (refl, refl, tt))

group_told : (ring : ℕ) (r : Standing) (seat order : ℕ) (machines : List ℕ) → Outcome ring r (turn_at r (group ring seat order machines))
group_told ring r seat order machines = unless_told ring r (group_refusal (bounds_now r) seat machines) (grouped ring r seat order machines) (λ q.
    let can = (group_bounds (bounds_now r) seat machines q).1 in
    let size : length (move_order machines) ≡ length machines = (move_order_law (length (state_of r).ring.values) machines can.rising can.some can.fewer).size in
    let es : List Event = block_now r seat order machines in
    let long : length es ≡ length (move_order machines) = members_length seat order (move_order machines) es (block_members till (state_of r) seat order (move_order machines)) in
    inr (inl (record { seat = seat; es = es; recorded = refl; leaves = refl; told = (refl, sym (long ∙ size)) })))

told_at : (r : Standing) (command : Command) → Outcome (ring_of command) r (turn_at r command)
told_at r (pass ring seat machine order) = passed_told ring r seat machine order
told_at r (try ring seat machine order) = try_told ring r seat machine order
told_at r (group ring seat order machines) = group_told ring r seat order machines
told_at r (corrupt ring seat machine value) = unless_told ring r (corrupt_refusal (bounds_now r) seat machine value) (called ring r seat (op.Corrupt machine value)) (λ q. called_told ring r seat (op.Corrupt machine value))
told_at r (survey ring seat) = unless_told ring r (seat_refusal (bounds_now r) seat) _ (λ q. inr (inr (record { seat = seat; recorded = refl; leaves = refl; told = refl })))
told_at r (glance ring) = inl (refl, refl, tt)
told_at r (save name) = inl (refl, refl, tt)

-- ---- among all rings

abbrev NothingAmong : List Standing → Turn (List Standing) → Type 0
NothingAmong rings turn = (turn.recorded ≡ []) × (turn.leaves ≡ rings) × TellsNoEvent turn.answer

-- one of the rings recorded events or a survey
record Went (rings : List Standing) (turn : Turn (List Standing)) : Type 0 where
  pub ring : ℕ
  pub was : Standing
  pub there : slice_get rings ring ≡ Some was
  pub one : Turn Standing
  pub outcome : More ring was one ⊎ Look ring was one
  pub recorded : turn.recorded ≡ one.recorded
  pub answer : turn.answer ≡ one.answer
  pub leaves : turn.leaves ≡ slice_set rings ring one.leaves

abbrev OutcomeAmong : List Standing → Turn (List Standing) → Type 0
OutcomeAmong rings turn = NothingAmong rings turn ⊎ Went rings turn

set_same : (rings : List Standing) (i : ℕ) (r : Standing) → slice_get rings i ≡ Some r → slice_set rings i r ≡ rings
set_same [] i r e = refl
set_same (x ∷ rings) zero r e = ap (λ (y : Standing). y ∷ rings) (sym (some_one x r e))
set_same (x ∷ rings) (suc i) r e = ap (λ (xs : List Standing). x ∷ xs) (set_same rings i r e)

among : (rings : List Standing) (command : Command) (x : Option Standing) → slice_get rings (ring_of command) ≡ x → OutcomeAmong rings (turn_among rings command x)
among rings command None e = inl (refl, refl, tt)
among rings command (Some r) e = go (told_at r command)
  where
    go : Outcome (ring_of command) r (turn_at r command) → OutcomeAmong rings (placed rings (ring_of command) (turn_at r command))
    go (inl n) = inl (n.0, ap (λ (x : Standing). slice_set rings (ring_of command) x) n.1 ∙ set_same rings (ring_of command) r e, n.2)
    go (inr o) = inr (record { ring = ring_of command; was = r; there = e; one = turn_at r command; outcome = o; recorded = refl; answer = refl; leaves = refl })

heard_told : (faults : Bool) (rings : List Standing) (x : Option Command) → OutcomeAmong rings (heard_turn faults rings x)
heard_told faults rings (Some command) = go (is_off faults command)
  where
    go : (off : Bool) → OutcomeAmong rings (if off then refused rings refusal.Off else turn_of rings command)
    go true = inl (refl, refl, tt)
    go false = among rings command (slice_get rings (ring_of command)) refl
heard_told faults rings None = inl (refl, refl, tt)

line_told : (faults : Bool) (rings : List Standing) (line : List ℕ) (turn : Turn (List Standing)) → IsTurnOfLine faults rings line turn → OutcomeAmong rings turn
line_told faults rings line turn (inl (inl h)) = subst (λ (t : Turn (List Standing)). OutcomeAmong rings t) (sym h.2) (heard_told faults rings (heard h.0))
line_told faults rings line turn (inl (inr h)) = subst (λ (t : Turn (List Standing)). OutcomeAmong rings t) (sym h.1) (inl (refl, refl, tt))
line_told faults rings line turn (inr e) = subst (λ (t : Turn (List Standing)). OutcomeAmong rings t) (sym e) (inl (refl, refl, tt))

on_told : (refusing : Option Refusal) (faults : Bool) (rings : List Standing) (line : List ℕ) (turn : Turn (List Standing)) → IsTurnOn refusing faults rings line turn → OutcomeAmong rings turn
on_told None faults rings line turn t = line_told faults rings line turn t
on_told (Some why) faults rings line turn e = subst (λ (t : Turn (List Standing)). OutcomeAmong rings t) (sym e) (inl (refl, refl, tt))

went_grown : (rings : List Standing) (turn : Turn (List Standing)) → OutcomeAmong rings turn → HaveGrown rings turn.leaves
went_grown rings turn (inl n) = subst (λ (x : List Standing). HaveGrown rings x) (sym n.1) (have_same rings)
went_grown rings turn (inr w) = subst (λ (x : List Standing). HaveGrown rings x) (sym w.leaves) (have_set rings w.ring w.was w.one.leaves w.there (one w.ring w.was w.one w.outcome))
  where
    one : (ring : ℕ) (was : Standing) (t : Turn Standing) → More ring was t ⊎ Look ring was t → HasGrown was t.leaves
    one ring was t (inl m) = subst (λ (x : Standing). HasGrown was x) (sym m.leaves) (with_more was m.seat m.es)
    one ring was t (inr l) = subst (λ (x : Standing). HasGrown was x) (sym l.leaves) (looked_more was l.seat)

-- ---- the answer that is given

not_saved : (x : Reply) → answer.Saved ≡ answer_of x → ⊥
not_saved (reply_is.Granted number result) e = cc
not_saved reply_is.NotPrivileged e = cc
not_saved (reply_is.Corrupted old) e = cc

abbrev GivenOf : Answer → Answer → Type 0
GivenOf asked given = (given ≡ asked) ⊎ ((asked ≡ answer.Saved) × TellsNoEvent given)

no_event : (a given : Answer) → given ≡ a → TellsNoEvent a → TellsNoEvent given
no_event a given e t = subst TellsNoEvent (sym e) t

given_of : (journal history saves : Option (List ℕ)) (was is : Option Held) (name : List ℕ) (rings : List Standing) (asked given : Answer) → IsGiven journal history saves was is name rings asked given → GivenOf asked given
given_of journal history None was is name rings answer.Saved given g = inr (refl, no_event (answer.Refused refusal.Off) given g.0 tt)
given_of journal history (Some folder) was is name rings answer.Saved given (inl (p, inl s)) = inr (refl, no_event answer.Saved given s.0 tt)
given_of journal history (Some folder) was is name rings answer.Saved given (inl (p, inr s)) = inr (refl, no_event (answer.Refused refusal.File) given s.0 tt)
given_of journal history (Some folder) was is name rings answer.Saved given (inr s) = inr (refl, no_event (answer.Refused refusal.Name) given s.1 tt)
given_of journal history saves was is name rings (answer.Granted number result) given g = inl g.0
given_of journal history saves was is name rings answer.Waits given g = inl g.0
given_of journal history saves was is name rings (answer.Corrupted old) given g = inl g.0
given_of journal history saves was is name rings (answer.Survey s) given g = inl g.0
given_of journal history saves was is name rings (answer.Block first count) given g = inl g.0
given_of journal history saves was is name rings (answer.Refused why) given g = inl g.0

nothing_given : (asked given : Answer) → GivenOf asked given → TellsNoEvent asked → TellsNoEvent given
nothing_given asked given (inl e) t = no_event asked given e t
nothing_given asked given (inr s) t = s.1

events_given : (was : Standing) (es : List Event) (asked given : Answer) → GivenOf asked given → IsAnswerTo was es asked → IsAnswerTo was es given
events_given was es asked given (inl e) t = subst (IsAnswerTo was es) (sym e) t
events_given was es asked given (inr s) t = let is = subst (IsAnswerTo was es) s.0 t in absurd (not_saved (shifted_reply was.base is.0.reply) is.2)

survey_given : (asked given : Answer) (s : _) → GivenOf asked given → asked ≡ answer.Survey s → given ≡ answer.Survey s
survey_given asked given s (inl e) t = e ∙ t
survey_given asked given s (inr n) t = absurd (no (sym t ∙ n.0))
  where
    no : answer.Survey s ≡ answer.Saved → ⊥
    no e = cc

-- ---- the call of a turn is in rings that have grown from what it left

call_in : (old rings : List Standing) (turn : Turn (List Standing)) (given : Answer) → OutcomeAmong old turn → HaveGrown turn.leaves rings → GivenOf turn.answer given → IsCallIn old turn.recorded given rings
call_in old rings turn given (inl n) h g = subst (λ (x : List RingTrace). IsCallIn old x given rings) (sym n.0) (nothing_given turn.answer given g n.2)
call_in old rings turn given (inr w) h g = go w.outcome
  where
    after : HaveGrown (slice_set old w.ring w.one.leaves) rings
    after = subst (λ (x : List Standing). HaveGrown x rings) w.leaves h

    one : GivenOf w.one.answer given
    one = subst (λ (x : Answer). GivenOf x given) w.answer g

    go : More w.ring w.was w.one ⊎ Look w.ring w.was w.one → IsCallIn old turn.recorded given rings
    go (inl m) =
        let at = grown_at (slice_set old w.ring w.one.leaves) rings w.ring w.one.leaves after (set_there old w.ring w.was w.one.leaves w.there) in
        let in_rings : HasEvents old rings w.ring m.es given = record {
          was = w.was;
          is = at.0;
          there = w.there;
          here = at.1;
          seat = m.seat;
          grown = subst (λ (x : Standing). HasGrown x at.0) m.leaves at.2;
          told = events_given w.was m.es w.one.answer given one m.told;
        } in
        subst (λ (x : List RingTrace). IsCallIn old x given rings) (sym (w.recorded ∙ m.recorded)) in_rings
    go (inr l) =
        let at = grown_at (slice_set old w.ring w.one.leaves) rings w.ring w.one.leaves after (set_there old w.ring w.was w.one.leaves w.there) in
        let in_rings : HasSurvey old rings w.ring l.seat (survey_now w.was) given = record {
          was = w.was;
          is = at.0;
          there = w.there;
          here = at.1;
          grown = subst (λ (x : Standing). HasGrown x at.0) l.leaves at.2;
          told = survey_given w.one.answer given (shifted_survey w.was.base (is_quiet w.was.history) (survey_now w.was)) one l.told;
        } in
        subst (λ (x : List RingTrace). IsCallIn old x given rings) (sym (w.recorded ∙ l.recorded)) in_rings

-- ---- all lines

answered_outcome : (terms : Terms) (old new : List Standing) (was is : Option Held) (line said noted : List ℕ) (a : IsAnswered terms old was line said noted new is) → OutcomeAmong old a.turn
answered_outcome terms old new was is line said noted a = on_told terms.refusing terms.faults old line a.turn a.of_line

pub answered_grown : (terms : Terms) (old new : List Standing) (was is : Option Held) (line said noted : List ℕ) → IsAnswered terms old was line said noted new is → HaveGrown old new
answered_grown terms old new was is line said noted a = subst (λ (x : List Standing). HaveGrown old x) a.leaves (went_grown old a.turn (answered_outcome terms old new was is line said noted a))

pub answers_grown : (terms : Terms) (old new : List Standing) (was is : Option Held) (lines : List (List ℕ)) (said noted : List ℕ) → Answers terms old was lines said noted new is → HaveGrown old new
answers_grown terms old new was is [] said noted h = subst (λ (x : Stand (List Standing)). HaveGrown old x.service) (sym h.2) (have_same old)
answers_grown terms old new was is (line ∷ lines) said noted h =
    let mid : List Standing = h.0.service in
    let between : Option Held = h.0.files in
    have_then old mid new (answered_grown terms old mid was between line h.1 h.3 h.5) (answers_grown terms mid new between is lines h.2 h.4 h.8)

pub calls_in : (terms : Terms) (old mid rings : List Standing) (was is : Option Held) (lines : List (List ℕ)) (said noted : List ℕ) → Answers terms old was lines said noted mid is → HaveGrown mid rings → AreCallsIn terms old was lines said rings
calls_in terms old mid rings was is [] said noted h g = h.0
calls_in terms old mid rings was is (line ∷ lines) said noted h g =
    let now : List Standing = h.0.service in
    let between : Option Held = h.0.files in
    let one : IsAnswered terms old was line h.1 h.3 now between = h.5 in
    let on : HaveGrown now rings = have_then now mid rings (answers_grown terms now mid between is lines h.2 h.4 h.8) g in
    let left : HaveGrown one.turn.leaves rings = subst (λ (x : List Standing). HaveGrown x rings) (sym one.leaves) on in (
      now,
      between,
      h.1,
      h.2,
      h.3,
      one,
      h.6,
      call_in old rings one.turn one.given (answered_outcome terms old now was between line h.1 h.3 one) left (given_of terms.journal terms.history terms.saves was between (name_in line) now one.turn.answer one.given one.gives),
      calls_in terms now mid rings between is lines h.2 h.4 h.8 g,
    )
