-- From the result of a run of one ring to the promise on it.
use Rattle.std.proofs.Common.{◌≡◌, ℕ, ◌<◌, ◌≤◌, Bool, true, cond, List, [], ◌∷◌, length, map, Some, slice_get, get_or, ap, sym, ◌∙◌, refl, subst, arith, ⊎_elim}
use Rattle.std.specs.Prelude.{false, filter, unwrap_or, IfOk, Option, None, Result, Ok}
use Rattle.std.proofs.lemmas.Option.{slice_get_within, get_or_from_slice_get, slice_get_cases}
use Rattle.ring_model.specs.Ring.{Ring}
use Rattle.ring_model.specs.History.{IsLegal, opening}
use Rattle.ring_model.specs.Logs.{Fits, calls_of, receipts_of}
use Rattle.ring_model.specs.Resources.{till}
use Rattle.ring_model.specs.declared.events.Op.{Op}
use Rattle.ring_model.specs.declared.events.Op.TheVariants as op
use Rattle.ring_model.specs.declared.events.Entry.{Entry}
use Rattle.ring_model.specs.declared.events.Entry.TheVariants as entry
use Rattle.ring_settings.specs.declared.actions.Action.{Action}
use Rattle.ring_settings.specs.declared.actions.Plan.{Plan}
use Rattle.std.proofs.lemmas.List.{length-map}
use Rattle.ring_settings.specs.Contents.{SettingsData, RingData, ring_at, plan_of, IsSettings}
use Rattle.ring_settings.specs.Views.{plan_actions}
use Rattle.ring_logs.specs.declared.logs.Log.{Log}
use Rattle.ring_logs.specs.Seats.{AreOfSeats}
use Rattle.ring_farm.specs.declared.outcomes.Outcome.{Outcome}
use Rattle.ring_logs.specs.declared.outcomes.RingOutcome.{RingOutcome}
use Rattle.ring_farm.specs.declared.faults.FarmError.{FarmError}
use Rattle.ring_farm.proofs.Refusals.{ok_place}
use Rattle.ring_farm.specs.Plans.{actions_of, part, planned, planned_calls, calls_read, action_of_op, is_call}
use Rattle.ring_farm.specs.Runs.{IsRun, ring_of_data}
use Rattle.ring_farm.specs.Headline.{EachRing, EachDone, IsFarmRing, IsFarmOf, IsOneHistory, HoldsCalls, HasLogs, AreRight}

-- the run of a ring of the settings
abbrev pub RunOf : List Plan → ℕ → RingData → RingOutcome → Type 0
RunOf plans ring d r = IsRun plans ring (ring_of_data d) r.book r.logs.items

one_history : (plans : List Plan) (ring : ℕ) (d : RingData) (r : RingOutcome) → RunOf plans ring d r → IsOneHistory d r
one_history plans ring d r run = (run.begins, subst (λ (s : Ring). IsLegal till (opening s 0) r.book.history) run.begins run.book.legal)

-- the events that read as a call, or as none
abbrev is_read_call : Option Action → Bool
is_read_call (Some a) = is_call a
is_read_call None = true

op_is_call : (ring : ℕ) (o : Op) → is_read_call (action_of_op ring o) ≡ true
op_is_call ring (op.Pass machine order) = refl
op_is_call ring (op.Member machine order left) = refl
op_is_call ring (op.Corrupt machine value) = refl

filter_read : (xs : List Action) → filter is_read_call (map (λ (a : Action). Some a) xs) ≡ map (λ (a : Action). Some a) (filter is_call xs)
filter_read [] = refl
filter_read (a ∷ xs) = go (is_call a) refl (filter_read xs)
  where
    go : (b : Bool) → is_call a ≡ b → filter is_read_call (map (λ (x : Action). Some x) xs) ≡ map (λ (x : Action). Some x) (filter is_call xs) →
        filter is_read_call (map (λ (x : Action). Some x) (a ∷ xs)) ≡ map (λ (x : Action). Some x) (filter is_call (a ∷ xs))
    go true e more = rw e (ap (λ (ys : List (Option Action)). Some a ∷ ys) more)
    go false e more = rw e more

-- the receipts of a log, read as actions, are the calls among the log's actions
pub calls_read-receipts_of : (ring : ℕ) (log : List Entry) → calls_read ring (receipts_of log) ≡ filter is_read_call (actions_of ring log)
calls_read-receipts_of ring [] = refl
calls_read-receipts_of ring (entry.Receipt r ∷ log) =
    ap (λ (xs : List (Option Action)). action_of_op ring r.event.op ∷ xs) (calls_read-receipts_of ring log)
    ∙ sym (ap (λ (b : Bool). cond b (action_of_op ring r.event.op ∷ filter is_read_call (actions_of ring log)) (filter is_read_call (actions_of ring log))) (op_is_call ring r.event.op))
calls_read-receipts_of ring (entry.Survey s ∷ log) = calls_read-receipts_of ring log

-- the log at a place of a run, with what is known of it
log_at : (plans : List Plan) (ring : ℕ) (d : RingData) (r : RingOutcome) (seat : ℕ) → RunOf plans ring d r → seat < length plans →
    (p : Plan) × (l : Log) × (slice_get plans seat ≡ Some p) × (slice_get r.logs.items seat ≡ Some l)
log_at plans ring d r seat run within =
    let count = run.count in
    ⊎_elim
    (λ (t : (p : Plan) × (seat < length plans) × (slice_get plans seat ≡ Some p) × (get_or plans seat p ≡ p)).
    ⊎_elim
    (λ (u : (l : Log) × (seat < length r.logs.items) × (slice_get r.logs.items seat ≡ Some l) × (get_or r.logs.items seat l ≡ l)). (t.0, u.0, t.2, u.2))
    (λ (u : (length r.logs.items ≤ seat) × (slice_get r.logs.items seat ≡ None)). let v = u.0 in absurd (omega arith))
    (slice_get_cases r.logs.items seat).1)
    (λ (t : (length plans ≤ seat) × (slice_get plans seat ≡ None)). let u = t.0 in absurd (omega arith))
    (slice_get_cases plans seat).1

-- each plan is its seat's
abbrev pub ArePlansOf : SettingsData → List Plan → Type 0
ArePlansOf settings plans = (seat : ℕ) (d : Plan) → seat < length plans → plan_actions (get_or plans seat d) ≡ plan_of settings seat

plan_is : (settings : SettingsData) (plans : List Plan) (seat : ℕ) (p : Plan) → ArePlansOf settings plans → slice_get plans seat ≡ Some p → p.actions.items ≡ plan_of settings seat
plan_is settings plans seat p are at =
    sym (ap plan_actions (get_or_from_slice_get plans seat p p at)) ∙ are seat p (slice_get_within plans seat p at)

-- the log at a place is that of the seat of this number, and its receipts are that seat's calls
receipts_are : (plans : List Plan) (ring : ℕ) (d : RingData) (r : RingOutcome) (seat : ℕ) (p : Plan) (l : Log) → RunOf plans ring d r →
    slice_get plans seat ≡ Some p → slice_get r.logs.items seat ≡ Some l → receipts_of l.entries.items ≡ calls_of seat r.book.history
receipts_are plans ring d r seat p l run at_p at_l =
    let fits : Fits till (opening (ring_of_data d) 0) r.book.history l.seat l.entries.items =
    subst (λ (x : Log). Fits till (opening (ring_of_data d) 0) r.book.history x.seat x.entries.items) (get_or_from_slice_get r.logs.items seat l l at_l)
    (run.fits seat l (slice_get_within r.logs.items seat l at_l)) in
    fits.calls ∙ ap (λ (k : ℕ). calls_of k r.book.history) (run.logged seat p l at_p at_l).0

-- a seat's calls in the history are the calls of its plan's part
calls_of_plan : (settings : SettingsData) (plans : List Plan) (ring : ℕ) (d : RingData) (r : RingOutcome) (seat : ℕ) (p : Plan) (l : Log) → RunOf plans ring d r → ArePlansOf settings plans →
    slice_get plans seat ≡ Some p → slice_get r.logs.items seat ≡ Some l →
    calls_read ring (calls_of seat r.book.history) ≡ planned_calls ring (plan_of settings seat)
calls_of_plan settings plans ring d r seat p l run are at_p at_l =
    let logged = run.logged seat p l at_p at_l in
    ap (calls_read ring) (sym (receipts_are plans ring d r seat p l run at_p at_l))
    ∙ calls_read-receipts_of ring l.entries.items
    ∙ ap (filter is_read_call) logged.1
    ∙ filter_read (part ring p.actions.items)
    ∙ ap (planned_calls ring) (plan_is settings plans seat p are at_p)

holds_calls : (settings : SettingsData) (plans : List Plan) (ring : ℕ) (d : RingData) (r : RingOutcome) → RunOf plans ring d r → ArePlansOf settings plans → length plans ≡ length settings.seats →
    HoldsCalls settings ring d r
holds_calls settings plans ring d r run are count = (
  subst (λ (k : ℕ). AreOfSeats k r.book.history) count run.of_seats,
  λ seat within. let found = log_at plans ring d r seat run (omega arith) in calls_of_plan settings plans ring d r seat found.0 found.1 run are found.2 found.3,
)

has_logs : (settings : SettingsData) (plans : List Plan) (ring : ℕ) (d : RingData) (r : RingOutcome) → RunOf plans ring d r → ArePlansOf settings plans → length plans ≡ length settings.seats →
    HasLogs settings ring r
has_logs settings plans ring d r run are count = record {
  count = run.count ∙ count;
  each = λ seat l at.
      let long = run.count in
      let within = slice_get_within r.logs.items seat l at in
      let found = log_at plans ring d r seat run (omega arith) in
      let logged = run.logged seat found.0 l found.2 at in
      (logged.0, logged.1 ∙ ap (planned ring) (plan_is settings plans seat found.0 are found.2));
}

are_right : (plans : List Plan) (ring : ℕ) (d : RingData) (r : RingOutcome) → RunOf plans ring d r → AreRight d r
are_right plans ring d r run = run.fits

-- a run of a ring keeps all that is promised of it
outcome_of : (settings : SettingsData) (plans : List Plan) (ring : ℕ) (d : RingData) (r : RingOutcome) → RunOf plans ring d r → ArePlansOf settings plans → length plans ≡ length settings.seats →
    IsFarmRing settings ring d r
outcome_of settings plans ring d r run are count = record {
  one_history = one_history plans ring d r run;
  calls = holds_calls settings plans ring d r run are count;
  logs = has_logs settings plans ring d r run are count;
  right = are_right plans ring d r run;
}

-- each ring that was not refused has its run
pub each_done : (plans : List Plan) (settings : SettingsData) (results : List (Result RingOutcome FarmError)) → ArePlansOf settings plans → length plans ≡ length settings.seats →
    ((i : ℕ) (d : Result RingOutcome FarmError) → i < length settings.rings → IfOk (get_or results i d) (λ (r : RingOutcome). IsRun plans i (ring_of_data (ring_at settings i)) r.book r.logs.items)) →
    EachDone (IsFarmRing settings) settings results
each_done plans settings results are count each i d res at_d at_r r is =
    let within = slice_get_within settings.rings i d at_d in
    let there : slice_get results i ≡ Some (Ok r) = at_r ∙ ap (λ (x : Result RingOutcome FarmError). Some x) is in
    let run : IsRun plans i (ring_of_data (ring_at settings i)) r.book r.logs.items = subst (λ (x : Result RingOutcome FarmError). IfOk x (λ (r : RingOutcome). IsRun plans i (ring_of_data (ring_at settings i)) r.book r.logs.items))
    (get_or_from_slice_get results i (Ok r) (Ok r) there) (each i (Ok r) within) in
    let same : ring_at settings i ≡ d = ap (λ (x : Option RingData). unwrap_or x (record { size = record { n = 0; k = 0 }; start = [] })) at_d in
    outcome_of settings plans i d r (subst (λ (x : RingData). IsRun plans i (ring_of_data x) r.book r.logs.items) same run) are count

-- where no ring was refused, each has its outcome
pub each_ring : (settings : SettingsData) (results : List (Result RingOutcome FarmError)) (o : Outcome) → EachDone (IsFarmRing settings) settings results → results ≡ map (λ r. Ok r) o.rings.items →
    EachRing (IsFarmRing settings) settings o
each_ring settings results o done is i d r at_d at_r = done i d (Ok r) at_d (ok_place results o.rings.items i r is at_r) r refl

-- and all of them are what the farm hands out
pub farm_of : (settings : SettingsData) (results : List (Result RingOutcome FarmError)) (o : Outcome) → IsSettings settings → length results ≡ length settings.rings →
    EachDone (IsFarmRing settings) settings results → results ≡ map (λ r. Ok r) o.rings.items → IsFarmOf settings o
farm_of settings results o allowed long done is =
    let as_result : RingOutcome → Result RingOutcome FarmError = λ r. Ok r in
    record {
      allowed = allowed;
      count = sym (length-map o.rings.items as_result) ∙ sym (ap length is) ∙ long;
      rings = each_ring settings results o done is;
    }
