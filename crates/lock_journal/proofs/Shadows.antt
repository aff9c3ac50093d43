-- The ring of a lock, and the ring that its journal records: that has the surveys that end holds in
-- its logs, too.
use Rattle.std.proofs.Common.{◌≡◌, ℕ, ◌+◌, Bool, true, false, List, [], ◌∷◌, ◌++◌, map, length, get_or, Option, None, refl, sym, ◌∙◌, ap, subst, inl, inr, arith, ◌<◌, ◌^◌, drop, ◌≤◌, length-append, if◌then◌else◌, ◌⊎◌, get_or-set_same, get_or-set_other}
use Rattle.std.specs.Prelude.{nat_le}
use Rattle.std.proofs.lemmas.Bool.{cases_eq, leb-true, leb-false}
use Rattle.std.proofs.lemmas.List.{length-set, map-append, length-map, drop-append-le}
use Rattle.ring_model.specs.Limits.{event_limit}
use Rattle.ring_model.specs.Ring.{Ring}
use Rattle.ring_model.specs.Steps.{IsInRange}
use Rattle.ring_model.specs.Groups.{IsAlone}
use Rattle.ring_model.specs.Surveys.{survey_at}
use Rattle.ring_model.specs.Resources.{till}
use Rattle.ring_model.specs.History.{State, opening, next, StepOf, reply}
use Rattle.ring_model.specs.declared.events.Op.{Op}
use Rattle.ring_model.specs.declared.events.Reply.{Reply}
use Rattle.ring_model.specs.declared.events.Event.{Event}
use Rattle.ring_model.specs.declared.events.Survey.{Survey as SurveyOf}
use Rattle.ring_model.specs.declared.events.Receipt.{Receipt}
use Rattle.ring_model.specs.declared.events.Entry.{Entry}
use Rattle.ring_model.proofs.Histories.{after-append, StepOf-next, StepOf-reply}
use Rattle.ring_book.specs.BookView.{BookView}
use Rattle.ring_logs.specs.LogView.{LogView}
use Rattle.ring_logs.specs.Seats.{receipts_from}
use Rattle.one_thread_ring.specs.Rings.{told_more, grown}
use Rattle.ring_model.specs.declared.bases.Base.{Base}
use Rattle.ring_model.specs.Bases.{shifted_event, shifted}
use Rattle.journal.specs.ContentAfter.{event_is_open}
use Rattle.one_thread_ring.specs.SavedOf.{saved_event}
use Rattle.endless_ring.specs.Endless.{EndlessView, IsSameEndless, local_survey, IsCalled, IsEndless}
use Rattle.ring_service.specs.Standings.{Standing, standing_of, survey_now, with_survey, with_events, state_of, event_now}
use Rattle.ring_service.specs.Saved.{IsRight}
use Rattle.ring_service.specs.Turns.{Turn, events, surveyed}
use Rattle.ring_service.proofs.Turning.{call_right, survey_right}
use Rattle.ring_service.proofs.Effects.{Grew, Looked}
use Rattle.ring_service.proofs.RecordedFits.{SmallCall, SmallOp}
use Rattle.held_locks.specs.Locks.{Mark, Call}
use Rattle.held_locks.specs.Promises.{open_after, open_behind}
use Rattle.held_locks.specs.Opened.{last_survey, later}
use Rattle.held_locks.proofs.Shown.{open_append}
use Rattle.ring_model.specs.declared.events.Entry.TheVariants as entry
use Rattle.ring_model.specs.declared.events.Op.TheVariants as op
use Rattle.ring_model.specs.declared.events.Reply.TheVariants as reply_is
use Rattle.ring_service.specs.declared.answers.Answer.TheVariants as answer

-- ---- the hold that is open in a ring as its journal records it

abbrev pub log_at : List LogView → ℕ → List Entry
log_at cs seat = (get_or cs seat (record { number = seat; log = [] })).log

abbrev pub end_of : List LogView → ℕ
end_of cs = later (last_survey 0 (log_at cs 1)) (last_survey 0 (log_at cs 2))

abbrev pub open_of : Standing → Option ℕ
open_of s = open_after None (map Call (drop (end_of s.clients) (shifted s.base s.history)))

-- the two rings have one segment, and each hold that ended has ended before its end
pub record Shadows (s : Standing) (e : EndlessView) : Type 0 where
  pub base : s.base ≡ e.base
  pub start : s.start ≡ e.ring.book.start
  pub history : s.history ≡ e.ring.book.history
  pub now : state_of s ≡ e.ring.book.now
  pub seats : length s.clients ≡ 10
  pub ended : end_of s.clients ≤ length s.history

-- room aside
pub shadows_same : (s : Standing) (old new : EndlessView) → Shadows s old → IsSameEndless old new → Shadows s new
shadows_same s old new h e = record {
  base = h.base ∙ sym e.base;
  start = h.start ∙ sym (ap (λ (b : BookView ℕ). b.start) e.ring.book);
  history = h.history ∙ sym (ap (λ (b : BookView ℕ). b.history) e.ring.book);
  now = h.now ∙ sym (ap (λ (b : BookView ℕ). b.now) e.ring.book);
  seats = h.seats;
  ended = h.ended;
}

-- ---- the last survey of a log

pub last_append : (place : ℕ) (xs ys : List Entry) → last_survey place (xs ++ ys) ≡ last_survey (last_survey place xs) ys
last_append place [] ys = refl
last_append place (entry.Receipt r ∷ xs) ys = last_append place xs ys
last_append place (entry.Survey s ∷ xs) ys = last_append s.position xs ys

no_survey : (place n : ℕ) (es : List Event) → last_survey place (receipts_from n es) ≡ place
no_survey place n [] = refl
no_survey place n (e ∷ es) = no_survey place (n + 1) es

log_own : (cs : List LogView) (seat : ℕ) (es : List Entry) → seat < length cs → log_at (told_more cs seat es) seat ≡ log_at cs seat ++ es
log_own cs seat es l =
    let nobody : LogView = record { number = seat; log = [] } in
    let there : get_or (told_more cs seat es) seat nobody ≡ grown (get_or cs seat nobody) es = get_or-set_same cs seat (grown (get_or cs seat nobody) es) nobody l in
    ap (λ (t : LogView). t.log) there

log_other : (cs : List LogView) (seat : ℕ) (es : List Entry) (i : ℕ) → (i ≡ seat → ⊥) → log_at (told_more cs seat es) i ≡ log_at cs i
log_other cs seat es i ne =
    let nobody : LogView = record { number = i; log = [] } in
    ap (λ (t : LogView). t.log) (get_or-set_other cs seat i (grown (get_or cs seat (record { number = seat; log = [] })) es) nobody ne)

last_called : (cs : List LogView) (seat n : ℕ) (es : List Event) (i : ℕ) → seat < length cs → last_survey 0 (log_at (told_more cs seat (receipts_from n es)) i) ≡ last_survey 0 (log_at cs i)
last_called cs seat n es i l = elim (cases_eq i seat) [
  | inl e ↦
      let own : last_survey 0 (log_at (told_more cs seat (receipts_from n es)) seat) ≡ last_survey 0 (log_at cs seat) =
      ap (λ (x : List Entry). last_survey 0 x) (log_own cs seat (receipts_from n es) l) ∙ (last_append 0 (log_at cs seat) (receipts_from n es) ∙ no_survey (last_survey 0 (log_at cs seat)) n es) in
      ap (λ (k : ℕ). last_survey 0 (log_at (told_more cs seat (receipts_from n es)) k)) e ∙ (own ∙ ap (λ (k : ℕ). last_survey 0 (log_at cs k)) (sym e))
  | inr ne ↦ ap (λ (x : List Entry). last_survey 0 x) (log_other cs seat (receipts_from n es) i ne)
]

pub end_called : (cs : List LogView) (seat n : ℕ) (es : List Event) → seat < length cs → end_of (told_more cs seat (receipts_from n es)) ≡ end_of cs
end_called cs seat n es l =
    ap (λ (x : ℕ). later x (last_survey 0 (log_at (told_more cs seat (receipts_from n es)) 2))) (last_called cs seat n es 1 l) ∙ ap (λ (x : ℕ). later (last_survey 0 (log_at cs 1)) x) (last_called cs seat n es 2 l)

-- the later of two places
later_first : (a b m : ℕ) → later a b ≤ m → a ≤ m
later_first a b m = go (nat_le a b) refl
  where
    go : (t : Bool) → nat_le a b ≡ t → (if t then b else a) ≤ m → a ≤ m
    go true e l = let k = leb-true a b e in omega (arith, k, l)
    go false e l = l

later_second : (a b m : ℕ) → later a b ≤ m → b ≤ m
later_second a b m = go (nat_le a b) refl
  where
    go : (t : Bool) → nat_le a b ≡ t → (if t then b else a) ≤ m → b ≤ m
    go true e l = l
    go false e l = let k = leb-false a b e in omega (arith, k, l)

later_is : (a b m : ℕ) → a ≤ m → b ≤ m → (a ≡ m) ⊎ (b ≡ m) → later a b ≡ m
later_is a b m la lb one = go (nat_le a b) refl
  where
    go : (t : Bool) → nat_le a b ≡ t → (if t then b else a) ≡ m
    go true e = let k = leb-true a b e in elim one [ inl p ↦ omega (arith, k, lb, p) | inr p ↦ p ]
    go false e = let k = leb-false a b e in elim one [ inl p ↦ p | inr p ↦ omega (arith, k, la, p) ]

last_ended : (cs : List LogView) (seat : ℕ) (s : SurveyOf) → seat < length cs → last_survey 0 (log_at (told_more cs seat (entry.Survey s ∷ [])) seat) ≡ s.position
last_ended cs seat s l = ap (λ (x : List Entry). last_survey 0 x) (log_own cs seat (entry.Survey s ∷ []) l) ∙ last_append 0 (log_at cs seat) (entry.Survey s ∷ [])

end_ended : (cs : List LogView) (seat m : ℕ) (s : SurveyOf) → length cs ≡ 10 → (seat ≡ 1) ⊎ (seat ≡ 2) → end_of cs ≤ m → s.position ≡ m → end_of (told_more cs seat (entry.Survey s ∷ [])) ≡ m
end_ended cs seat m s n (inl is) l p =
    let one : last_survey 0 (log_at (told_more cs 1 (entry.Survey s ∷ [])) 1) ≡ m = last_ended cs 1 s (omega (arith, n)) ∙ p in
    let two : last_survey 0 (log_at (told_more cs 1 (entry.Survey s ∷ [])) 2) ≡ last_survey 0 (log_at cs 2) = ap (λ (x : List Entry). last_survey 0 x) (log_other cs 1 (entry.Survey s ∷ []) 2 (λ q. omega (arith, q))) in
    let most : last_survey 0 (log_at cs 2) ≤ m = later_second (last_survey 0 (log_at cs 1)) (last_survey 0 (log_at cs 2)) m l in
    ap (λ (k : ℕ). end_of (told_more cs k (entry.Survey s ∷ []))) is
    ∙ later_is (last_survey 0 (log_at (told_more cs 1 (entry.Survey s ∷ [])) 1)) (last_survey 0 (log_at (told_more cs 1 (entry.Survey s ∷ [])) 2)) m (omega (arith, one)) (omega (arith, two, most)) (inl one)
end_ended cs seat m s n (inr is) l p =
    let two : last_survey 0 (log_at (told_more cs 2 (entry.Survey s ∷ [])) 2) ≡ m = last_ended cs 2 s (omega (arith, n)) ∙ p in
    let one : last_survey 0 (log_at (told_more cs 2 (entry.Survey s ∷ [])) 1) ≡ last_survey 0 (log_at cs 1) = ap (λ (x : List Entry). last_survey 0 x) (log_other cs 2 (entry.Survey s ∷ []) 1 (λ q. omega (arith, q))) in
    let most : last_survey 0 (log_at cs 1) ≤ m = later_first (last_survey 0 (log_at cs 1)) (last_survey 0 (log_at cs 2)) m l in
    ap (λ (k : ℕ). end_of (told_more cs k (entry.Survey s ∷ []))) is
    ∙ later_is (last_survey 0 (log_at (told_more cs 2 (entry.Survey s ∷ [])) 1)) (last_survey 0 (log_at (told_more cs 2 (entry.Survey s ∷ [])) 2)) m (omega (arith, one, most)) (omega (arith, two)) (inr two)

-- ---- a call by itself

abbrev pub IsPlain : Op → Type 0
IsPlain (op.Pass machine order) = order < 2 ^ 64
IsPlain (op.Member machine order left) = ⊥
IsPlain (op.Corrupt machine value) = Unit {0}

plain_alone : (o : Op) → IsPlain o → IsAlone o
plain_alone (op.Pass machine order) p = tt
plain_alone (op.Member machine order left) p = p
plain_alone (op.Corrupt machine value) p = tt

plain_small : (o : Op) → IsPlain o → SmallOp o
plain_small (op.Pass machine order) p = p
plain_small (op.Member machine order left) p = absurd p
plain_small (op.Corrupt machine value) p = tt

plain_shut : (seat : ℕ) (o : Op) (r : Reply) → IsPlain o → event_is_open (saved_event (record { seat = seat; op = o; reply = r })) ≡ false
plain_shut seat (op.Pass machine order) (reply_is.Granted number result) p = refl
plain_shut seat (op.Pass machine order) reply_is.NotPrivileged p = refl
plain_shut seat (op.Pass machine order) (reply_is.Corrupted old) p = refl
plain_shut seat (op.Member machine order left) r p = absurd p
plain_shut seat (op.Corrupt machine value) r p = refl

-- a call that is a step is in range
plain_range : (a b : State ℕ) (o : Op) (r : Reply) → IsPlain o → StepOf till a o r b → IsInRange a.ring o
plain_range a b (op.Pass machine order) (reply_is.Granted number result) p h = h.0
plain_range a b (op.Pass machine order) reply_is.NotPrivileged p h = h.0
plain_range a b (op.Pass machine order) (reply_is.Corrupted old) p h = absurd h
plain_range a b (op.Member machine order left) r p h = absurd p
plain_range a b (op.Corrupt machine value) (reply_is.Granted number result) p h = absurd h
plain_range a b (op.Corrupt machine value) reply_is.NotPrivileged p h = absurd h
plain_range a b (op.Corrupt machine value) (reply_is.Corrupted old) p h = (h.0, h.1)

event_is : (s t : ℕ) (o p : Op) (r q : Reply) → s ≡ t → o ≡ p → r ≡ q → ◌≡◌ {A = Event} (record { seat = s; op = o; reply = r }) (record { seat = t; op = p; reply = q })
event_is s t o p r q a b c = λ i. record { seat = a i; op = b i; reply = c i }

-- the turn of a call, and of the end of a hold
abbrev pub called_turn : ℕ → Standing → ℕ → Event → Turn Standing
called_turn ring s seat e = record { answer = answer.Waits; recorded = events ring (e ∷ []) ∷ []; leaves = with_events s seat (e ∷ []) }

abbrev pub ended_turn : ℕ → Standing → ℕ → Turn Standing
ended_turn ring s seat = record { answer = answer.Waits; recorded = surveyed ring seat (survey_now s) ∷ []; leaves = with_survey s seat (survey_now s) }

pub record IsCalledSo (ring : ℕ) (s : Standing) (old new : EndlessView) (seat : ℕ) (shown : Event) : Type 0 where
  pub local : Event
  pub grew : Grew ring s (called_turn ring s seat local)
  pub shadows : Shadows (with_events s seat (local ∷ [])) new
  pub is_shown : shifted_event s.base local ≡ shown
  pub open_hold : open_of (with_events s seat (local ∷ [])) ≡ open_behind (open_of s) shown
  pub history : new.ring.book.history ≡ old.ring.book.history ++ local ∷ []
  pub of_seat : grew.seat ≡ seat
  pub of_call : grew.es ≡ local ∷ []
  pub small : SmallCall local

-- the hold after one event more
pub open_more : (s : Standing) (seat : ℕ) (e : Event) → seat < length s.clients → end_of s.clients ≤ length s.history → open_of (with_events s seat (e ∷ [])) ≡ open_behind (open_of s) (shifted_event s.base e)
open_more s seat e l most =
    let n : ℕ = end_of s.clients in
    let xs : List Event = shifted s.base s.history in
    let x : Event = shifted_event s.base e in
    let long : length xs ≡ length s.history = length-map s.history (shifted_event s.base) in
    let both : shifted s.base (s.history ++ e ∷ []) ≡ xs ++ x ∷ [] = map-append (shifted_event s.base) s.history (e ∷ []) in
    ap (λ (k : ℕ). open_after None (map Call (drop k (shifted s.base (s.history ++ e ∷ []))))) (end_called s.clients seat (length s.history) (e ∷ []) l)
    ∙ ap (λ (y : List Event). open_after None (map Call (drop n y))) both
    ∙ ap (λ (y : List Event). open_after None (map Call y)) (drop-append-le n xs (x ∷ []) (omega (arith, long, most)))
    ∙ ap (λ (y : List Mark). open_after None y) (map-append Call (drop n xs) (x ∷ []))
    ∙ open_append None (map Call (drop n xs)) (Call x ∷ [])

module _ (ring : ℕ) (x : EndlessView) (k : IsEndless x) (old new : EndlessView) (seat : ℕ) (o : Op) (r : Receipt) (h : Shadows (standing_of x) old) (c : IsCalled old new seat o r) (within : seat < 10) (plain : IsPlain o) (few : length new.ring.book.history ≤ event_limit) where
  abbrev s : Standing
  s = standing_of x

  abbrev e : Event
  e = c.local.event

  in_range : IsInRange (state_of s).ring o
  in_range =
      let step : StepOf till old.ring.book.now o e.reply new.ring.book.now = subst (λ (p : Op). StepOf till old.ring.book.now p e.reply new.ring.book.now) c.recorded.of_call c.recorded.step in
      subst (λ (a : State ℕ). IsInRange a.ring o) (sym h.now) (plain_range old.ring.book.now new.ring.book.now o e.reply plain step)

  is_now : event_now s seat o ≡ e
  is_now =
      let replied : e.reply ≡ reply till old.ring.book.now e.op = StepOf-reply till old.ring.book.now e.op e.reply new.ring.book.now c.recorded.step in
      sym (event_is e.seat seat e.op o e.reply (reply till (state_of s) o) c.recorded.of_seat c.recorded.of_call
      (replied ∙ (ap (λ (p : Op). reply till old.ring.book.now p) c.recorded.of_call ∙ ap (λ (a : State ℕ). reply till a o) (sym h.now))))

  inside : seat < length s.clients
  inside = let n = h.seats in omega (arith, n, within)

  called_right : IsRight (with_events s seat (e ∷ []))
  called_right =
      let long = length-append old.ring.book.history (e ∷ []) in
      let grew : length new.ring.book.history ≡ length (old.ring.book.history ++ e ∷ []) = ap (λ (z : List Event). length z) c.recorded.grown in
      let same : length s.history ≡ length old.ring.book.history = ap (λ (z : List Event). length z) h.history in
      subst (λ (z : Event). IsRight (with_events s seat (z ∷ []))) is_now
      (call_right x.base x.ring seat k.base k.ring inside o in_range (plain_alone o plain) (omega (arith, long, grew, same, few)))

  called_now : state_of (with_events s seat (e ∷ [])) ≡ new.ring.book.now
  called_now =
      let moved : new.ring.book.now ≡ next till old.ring.book.now e.op = StepOf-next till old.ring.book.now e.op e.reply new.ring.book.now c.recorded.step in
      after-append till (opening s.start 0) s.history (e ∷ []) ∙ (ap (λ (a : State ℕ). next till a e.op) h.now ∙ sym moved)

  pub called_so : IsCalledSo ring s old new seat r.event
  called_so =
      let long = length-append s.history (e ∷ []) in
      let end = end_called s.clients seat (length s.history) (e ∷ []) inside in
      let most = h.ended in
      let shown : shifted_event s.base e ≡ r.event = ap (λ (b : Base). shifted_event b e) h.base ∙ sym (ap (λ (z : Receipt). z.event) c.shifted) in record {
        local = e;
        grew = record {
          seat = seat;
          es = e ∷ [];
          within = inside;
          closes = subst (λ (p : Op). event_is_open (saved_event (record { seat = e.seat; op = p; reply = e.reply })) ≡ false) (sym c.recorded.of_call) (plain_shut e.seat o e.reply plain);
          right = called_right;
          recorded = refl;
          leaves = refl;
        };
        shadows = record {
          base = h.base ∙ sym c.base;
          start = h.start ∙ sym c.recorded.same_start;
          history = ap (λ (z : List Event). z ++ e ∷ []) h.history ∙ sym c.recorded.grown;
          now = called_now;
          seats = length-set s.clients seat (grown (get_or s.clients seat (record { number = seat; log = [] })) (receipts_from (length s.history) (e ∷ []))) ∙ h.seats;
          ended = omega (arith, long, end, most);
        };
        is_shown = shown;
        open_hold = open_more s seat e inside h.ended ∙ ap (λ (z : Event). open_behind (open_of s) z) shown;
        history = c.recorded.grown;
        of_seat = refl;
        of_call = refl;
        small = (let of = c.recorded.of_seat in omega (arith, of, within), subst SmallOp (sym c.recorded.of_call) (plain_small o plain));
      }

-- ---- the end of a hold

pub record IsEndedSo (ring : ℕ) (s : Standing) (e : EndlessView) (seat : ℕ) : Type 0 where
  pub looked : Looked ring s (ended_turn ring s seat)
  pub of_seat : looked.seat ≡ seat
  pub shadows : Shadows (with_survey s seat (survey_now s)) e
  pub open_hold : open_of (with_survey s seat (survey_now s)) ≡ None
  pub survey : local_survey e.ring ≡ survey_now s

drop_all : (xs : List Event) (n : ℕ) → n ≡ length xs → drop n xs ≡ []
drop_all xs n e = ap (λ (k : ℕ). drop k xs) e ∙ go xs
  where
    go : (ys : List Event) → drop (length ys) ys ≡ []
    go [] = refl
    go (y ∷ ys) = go ys

module _ (ring : ℕ) (x : EndlessView) (k : IsEndless x) (e : EndlessView) (seat : ℕ) (h : Shadows (standing_of x) e) (is : (seat ≡ 1) ⊎ (seat ≡ 2)) where
  abbrev t : Standing
  t = standing_of x

  seated : seat < length t.clients
  seated = let n = h.seats in elim is [ inl p ↦ omega (arith, n, p) | inr p ↦ omega (arith, n, p) ]

  pub ended_so : IsEndedSo ring t e seat
  ended_so =
      let end : end_of (told_more t.clients seat (entry.Survey (survey_now t) ∷ [])) ≡ length t.history = end_ended t.clients seat (length t.history) (survey_now t) h.seats is h.ended refl in
      let long : length (shifted t.base t.history) ≡ length t.history = length-map t.history (shifted_event t.base) in record {
        looked = record { seat = seat; within = seated; right = survey_right x.base x.ring seat k.base k.ring seated; recorded = refl; leaves = refl };
        of_seat = refl;
        shadows = record {
          base = h.base;
          start = h.start;
          history = h.history;
          now = h.now;
          seats = length-set t.clients seat (grown (get_or t.clients seat (record { number = seat; log = [] })) (entry.Survey (survey_now t) ∷ [])) ∙ h.seats;
          ended = omega (arith, end);
        };
        open_hold = ap (λ (y : List Event). open_after None (map Call y)) (drop_all (shifted t.base t.history) (end_of (told_more t.clients seat (entry.Survey (survey_now t) ∷ []))) (end ∙ sym long));
        survey = sym (ap (λ (g : Ring). survey_at till (opening g 0) t.history (length t.history)) h.start ∙ ap (λ (z : List Event). survey_at till (opening e.ring.book.start 0) z (length z)) h.history);
      }
