-- The block of a right run is right.
use Rattle.std.proofs.Common.{◌≡◌, ℕ, ◌+◌, ◌<◌, ◌≤◌, List, [], ◌∷◌, ◌++◌, length, map, get_or, refl, sym, ◌∙◌, ap, subst, arith, suc, inl, inr}
use Rattle.std.specs.Prelude.{slice_get, Some}
use Rattle.std.specs.List.{All, flat_map}
use Rattle.std.proofs.lemmas.List.{length-map}
use Rattle.std.proofs.lemmas.List.Elements.{All-cons}
use Rattle.std.proofs.lemmas.Option.{slice_get_within, get_or_from_slice_get}
use Rattle.ring_model.specs.Limits.{seat_limit, machine_limit, value_limit}
use Rattle.ring_model.specs.Ring.{Ring, IsRing}
use Rattle.ring_model.specs.declared.events.Op.{Op}
use Rattle.ring_model.specs.declared.events.Op.TheVariants.{Pass, Member, Corrupt}
use Rattle.ring_model.specs.declared.events.Reply.{Reply}
use Rattle.ring_model.specs.declared.events.Reply.TheVariants.{Granted, NotPrivileged, Corrupted}
use Rattle.ring_model.specs.declared.events.Event.{Event}
use Rattle.ring_model.specs.declared.events.Entry.{Entry}
use Rattle.ring_model.specs.declared.events.Entry.TheVariants as entry
use Rattle.ring_model.specs.History.{State, StepOf, next, opening, IsLegal}
use Rattle.ring_model.specs.Groups.{IsHistory}
use Rattle.ring_model.specs.Resources.{till}
use Rattle.ring_model.specs.Logs.{IsSurvey, IsFollowed, Fits}
use Rattle.ring_logs.specs.Seats.{AreOfSeats}
use Rattle.ring_logs.specs.declared.logs.Log.{Log}
use Rattle.ring_logs.specs.declared.outcomes.RingOutcome.{RingOutcome}
use Rattle.saved_history.specs.declared.saved.SavedSurvey.{SavedSurvey}
use Rattle.saved_history.specs.Versions.{latest_version}
use Rattle.one_thread_ring.specs.SavedOf.{saved_for, saved_event, saved_survey, entry_surveys, block_by, block_at}
use Rattle.ring_check.specs.Table.{event_of}
use Rattle.ring_check.specs.Legal.{history}
use Rattle.ring_check.specs.Meaning.{AreOnward, IsRightSurvey, IsRightBlock}
use Rattle.one_thread_ring.specs.Runs.{IsRightRun}
use Rattle.ring_check.proofs.Meanings.{to_order}

-- an event that is a step is described by its line
pub line_tells : (a b : State ℕ) (seat : ℕ) (o : Op) (r : Reply) → StepOf till a o r b → event_of (saved_for seat o r) ≡ record { seat = seat; op = o; reply = r }
line_tells a b seat (Pass i order) (Granted number result) h = refl
line_tells a b seat (Pass i order) NotPrivileged h = refl
line_tells a b seat (Pass i order) (Corrupted old) h = absurd h
line_tells a b seat (Member i order left) (Granted number result) h = refl
line_tells a b seat (Member i order left) NotPrivileged h = absurd h
line_tells a b seat (Member i order left) (Corrupted old) h = absurd h
line_tells a b seat (Corrupt i v) (Granted number result) h = absurd h
line_tells a b seat (Corrupt i v) NotPrivileged h = absurd h
line_tells a b seat (Corrupt i v) (Corrupted old) h = refl

lines_tell : (a : State ℕ) (h : List Event) → IsLegal till a h → map event_of (map saved_event h) ≡ h
lines_tell a [] l = refl
lines_tell a (e ∷ h) l =
    let one : event_of (saved_event e) ≡ e = line_tells a (next till a e.op) e.seat e.op e.reply l.0 in
    ap (λ (x : Event). x ∷ map event_of (map saved_event h)) one ∙ ap (λ (x : List Event). e ∷ x) (lines_tell (next till a e.op) h l.1)

-- the order of the surveys
later_seat : (before seat p q : ℕ) (ss : List SavedSurvey) → before < seat → AreOnward seat q ss → AreOnward before p ss
later_seat before seat p q [] l h = tt
later_seat before seat p q (s ∷ ss) l h = (inl (elim h.0 [ inl m ↦ omega arith | inr m ↦ let e = m.0 in omega arith ]), h.1)

log_order : (a : State ℕ) (h : List Event) (seat position front : ℕ) (log : List Entry) (tail : List SavedSurvey) → position ≤ front → IsFollowed till a h front log →
    ((p : ℕ) → AreOnward seat p tail) → AreOnward seat position (entry_surveys seat log ++ tail)
log_order a h seat position front [] tail l fits more = more position
log_order a h seat position front (entry.Receipt r ∷ log) tail l fits more = let m = fits.0 in log_order a h seat position (r.position + 1) log tail (omega arith) fits.2 more
log_order a h seat position front (entry.Survey s ∷ log) tail l fits more =
    let m = fits.0 in
    (inr (refl, omega arith), log_order a h seat s.position s.position log tail (omega arith) fits.2 more)

values_below : (k : ℕ) (s : List ℕ) → ((i : ℕ) → i < length s → get_or s i 0 < k) → All (λ v. v < k) s
values_below k [] h = λ i d l. absurd (omega arith)
values_below k (v ∷ s) h = All-cons (λ (x : ℕ). x < k) v s (h 0 (omega arith)) (values_below k s (λ i l. h (suc i) (omega arith)))

-- ---- logs of any type, which have their seats and their entries

module _ (L : Type 0) (seat_of : L → ℕ) (entries_of : L → List Entry) where
  -- a log at its place among those from this seat on: it has its number, and its entries follow one another in the history
  abbrev pub IsPlaced : State ℕ → List Event → ℕ → L → Type 0
  IsPlaced a h seat l = (seat_of l ≡ seat) × IsFollowed till a h 0 (entries_of l)

  -- such logs
  abbrev pub ArePlaced : State ℕ → List Event → ℕ → List L → Type 0
  ArePlaced a h seat logs = (i : ℕ) (l : L) → slice_get logs i ≡ Some l → IsPlaced a h (seat + i) l

  -- the surveys that they have, log by log
  abbrev pub surveys_of : List L → List SavedSurvey
  surveys_of logs = flat_map (λ (l : L). entry_surveys (seat_of l) (entries_of l)) logs

  first_placed : (a : State ℕ) (h : List Event) (seat : ℕ) (l : L) (logs : List L) → ArePlaced a h seat (l ∷ logs) → IsPlaced a h seat l
  first_placed a h seat l logs are = subst (λ (k : ℕ). IsPlaced a h k l) (omega arith) (are 0 l refl)

  others_placed : (a : State ℕ) (h : List Event) (seat : ℕ) (l : L) (logs : List L) → ArePlaced a h seat (l ∷ logs) → ArePlaced a h (seat + 1) logs
  others_placed a h seat l logs are i m at = subst (λ (k : ℕ). IsPlaced a h k m) (omega arith) (are (suc i) m at)

  logs_order : (a : State ℕ) (h : List Event) (seat : ℕ) (logs : List L) → ArePlaced a h seat logs → AreOnward seat 0 (surveys_of logs)
  logs_order a h seat [] are = tt
  logs_order a h seat (l ∷ logs) are =
      let one = first_placed a h seat l logs are in
      let others = logs_order a h (seat + 1) logs (others_placed a h seat l logs are) in
      subst (λ (k : ℕ). AreOnward seat 0 (entry_surveys k (entries_of l) ++ surveys_of logs)) (sym one.0)
      (log_order a h seat 0 0 (entries_of l) (surveys_of logs) (omega arith) one.1
      (λ p. later_seat seat (seat + 1) p 0 (surveys_of logs) (omega arith) others))

  -- each survey is right
  module _ (place : ℕ) (start : Ring) (h : List Event) (all : List L) (legal : IsLegal till (opening start 0) h) where
    told : history (block_by place start h (surveys_of all)) ≡ h
    told = lines_tell (opening start 0) h legal

    log_right : (seat front : ℕ) (log : List Entry) (tail : List SavedSurvey) → seat < seat_limit → IsFollowed till (opening start 0) h front log →
        All (IsRightSurvey (block_by place start h (surveys_of all))) tail → All (IsRightSurvey (block_by place start h (surveys_of all))) (entry_surveys seat log ++ tail)
    log_right seat front [] tail l fits more = more
    log_right seat front (entry.Receipt t ∷ log) tail l fits more = log_right seat (t.position + 1) log tail l fits.2 more
    log_right seat front (entry.Survey s ∷ log) tail l fits more =
        All-cons (IsRightSurvey (block_by place start h (surveys_of all))) (saved_survey seat s) (entry_surveys seat log ++ tail)
        (record { seat = l; right = subst (λ (es : List Event). IsSurvey till (opening start 0) es s) (sym told) fits.1 })
        (log_right seat s.position log tail l fits.2 more)

    logs_right : (seat : ℕ) (logs : List L) → seat + length logs ≤ seat_limit → ArePlaced (opening start 0) h seat logs →
        All (IsRightSurvey (block_by place start h (surveys_of all))) (surveys_of logs)
    logs_right seat [] l are = λ k d m. absurd (omega arith)
    logs_right seat (log ∷ logs) l are =
        let one = first_placed (opening start 0) h seat log logs are in
        let same = one.0 in
        log_right (seat_of log) 0 (entries_of log) (surveys_of logs) (omega arith) one.1
        (logs_right (seat + 1) logs (omega arith) (others_placed (opening start 0) h seat log logs are))

  -- the block is right if its ring is of an allowed size, its history is legal and whole with only events of the logs' seats, and
  -- the logs are placed
  pub parts_right : (place : ℕ) (start : Ring) (h : List Event) (logs : List L) → IsRing start → length start.values ≤ machine_limit → start.k ≤ value_limit →
      IsHistory till (opening start 0) h → length logs ≤ seat_limit → AreOfSeats (length logs) h → ArePlaced (opening start 0) h 0 logs → IsRightBlock latest_version place (block_by place start h (surveys_of logs))
  parts_right place start h logs ring machines values is few of_seats placed =
      let same : history (block_by place start h (surveys_of logs)) ≡ h = told place start h logs is.0 in
      let seats : All (λ (e : Event). e.seat < seat_limit) h = λ k d l. let s = of_seats k d l in omega (arith, s, few) in
      record {
        index = refl;
        two = ring.two;
        enough = ring.enough;
        most_machines = machines;
        most = values;
        below = values_below start.k start.values ring.below;
        seats = subst (λ (x : List Event). All (λ (e : Event). e.seat < seat_limit) x) (sym same) seats;
        legal_and_whole = subst (λ (x : List Event). IsHistory till (opening start 0) x) (sym same) is;
        events_said = sym (length-map h saved_event);
        surveys = logs_right place start h logs is.0 0 logs (omega (arith, few)) placed;
        order = to_order (surveys_of logs) (logs_order (opening start 0) h 0 logs placed);
      }

-- each log of a right run is placed
run_placed : (r : RingOutcome) → IsRightRun r → ArePlaced Log (λ l. l.seat) (λ l. l.entries.items) (opening r.book.start 0) r.book.history 0 r.logs.items
run_placed r h i l at =
    let fits : Fits till (opening r.book.start 0) r.book.history l.seat l.entries.items =
    subst (λ (x : Log). Fits till (opening r.book.start 0) r.book.history x.seat x.entries.items) (get_or_from_slice_get r.logs.items i l l at)
    (h.fits i l (slice_get_within r.logs.items i l at)) in
    let same = h.by_number i l at in
    (omega arith, fits.entries)

pub run_right : (place : ℕ) (r : RingOutcome) → IsRightRun r → IsRightBlock latest_version place (block_at place r)
run_right place r h = parts_right Log (λ l. l.seat) (λ l. l.entries.items) place r.book.start r.book.history r.logs.items h.ring h.most_machines h.most h.legal_and_whole h.few h.seats (run_placed r h)
