-- A ring after all its turns is a run of it.
use Rattle.std.proofs.Common.{◌≡◌, ℕ, zero, suc, ◌<◌, ◌≤◌, List, [], ◌∷◌, ◌++◌, All, map, length, get_or, refl, sym, ap, ◌∙◌, arith, subst, true}
use Rattle.std.specs.Prelude.{◌==◌}
use Rattle.std.proofs.lemmas.Bool.{eqb-true}
use Rattle.std.proofs.lemmas.List.{length-map, get_or-map}
use Rattle.std.proofs.lemmas.List.Elements.{All-weaker, All-map, filter_passes}
use Rattle.std.proofs.lemmas.List.Sums.{length-filter, count_by-le-length}
use Rattle.std.proofs.lemmas.List.FromFn.{get_or-map-range_with_len, length-map-range_with_len}
use Rattle.std.proofs.lemmas.Option.{slice_get_within, get_or_from_slice_get}
use Rattle.rand_pcg.specs.Lcg.{Lcg}
use Rattle.ring_model.specs.Ring.{Ring}
use Rattle.ring_model.specs.History.{opening}
use Rattle.ring_model.specs.Resources.{till}
use Rattle.ring_model.specs.declared.events.Entry.{Entry}
use Rattle.ring_model.proofs.HistoryLaws.{settlement}
use Rattle.ring_book.specs.BookView.{BookView, IsBook}
use Rattle.ring_logs.specs.LogView.{LogView}
use Rattle.ring_logs.specs.Seats.{AreOfSeats}
use Rattle.ring_logs.specs.declared.logs.Log.{Log}
use Rattle.ring_logs.specs.declared.outcomes.RingOutcome.{RingOutcome}
use Rattle.one_thread_ring.specs.Rings.{RingView, IsOneThreadRing, IsSameRing, AreLogsOf}
use Rattle.one_thread_ring.specs.Runs.{IsRightRun}
use Rattle.one_thread_ring.proofs.Closing.{logs_long}
use Rattle.ring_repairs.specs.Draws.{generator}
use Rattle.ring_settings.specs.Contents.{SettingsData, plans_of, ring_at}
use Rattle.ring_settings.specs.Limits.{action_limit}
use Rattle.ring_settings.specs.Views.{plan_actions}
use Rattle.ring_settings.specs.declared.actions.Action.{Action}
use Rattle.ring_settings.specs.declared.actions.Plan.{Plan}
use Rattle.ring_farm.specs.Plans.{actions_of, part, ring_of, IsShort}
use Rattle.ring_farm.specs.Runs.{IsRun, ring_of_data}
use Rattle.farm_in_turn.specs.Turns.{count_left, left_of, turns}
use Rattle.farm_in_turn.specs.InTurn.{Run, in_turn, new_run, after_turns}
use Rattle.farm_in_turn.specs.Rings.{so_far, IsRunInTurn}
use Rattle.farm_in_turn.proofs.Doing.{log_at, as_read, AreDone, AllDone, done_within}

-- the part of each plan that is for a ring
abbrev pub parts : ℕ → List Plan → List (List Action)
parts ring plans = map (part ring) (map plan_actions plans)

pub parts_long : (ring : ℕ) (plans : List Plan) → length (parts ring plans) ≡ length plans
parts_long ring plans = length-map (map plan_actions plans) (part ring) ∙ length-map plans plan_actions

pub part_at : (ring : ℕ) (plans : List Plan) (i : ℕ) (p : Plan) → i < length plans → left_of (parts ring plans) i ≡ part ring (get_or plans i p).actions.items
part_at ring plans i p lt =
    let many : length (map plan_actions plans) ≡ length plans = length-map plans plan_actions in
    get_or-map (part ring) (map plan_actions plans) i [] [] (omega arith) ∙ ap (part ring) (get_or-map plan_actions plans i p [] lt)

part_on : (ring : ℕ) (xs : List Action) → All (λ (a : Action). ring_of a ≡ ring) (part ring xs)
part_on ring xs =
    All-weaker (λ (a : Action). (ring_of a == ring) ≡ true) (λ (a : Action). ring_of a ≡ ring) (λ a h. eqb-true (ring_of a) ring h) (part ring xs)
    (filter_passes (λ (a : Action). ring_of a == ring) xs)

abbrev new_log : ℕ → LogView
new_log seat = record { number = seat; log = [] }

-- before any turn each seat has its part left
begun : (ring : ℕ) (plans : List Plan) → AreDone ring (parts ring plans) (parts ring plans) (new_run (length plans)).logs
begun ring plans =
    let n = parts_long ring plans in
    let many : length (map plan_actions plans) ≡ length plans = length-map plans plan_actions in
    record {
      logs_count = length-map-range_with_len new_log 0 (length plans) ∙ sym n;
      count = refl;
      on = λ i lt. subst (λ (xs : List Action). All (λ (a : Action). ring_of a ≡ ring) xs)
          (sym (get_or-map (part ring) (map plan_actions plans) i [] [] (omega arith))) (part_on ring (get_or (map plan_actions plans) i []));
      each = λ i lt.
          let nothing : log_at (new_run (length plans)).logs i ≡ [] =
          ap (λ (c : LogView). c.log) (get_or-map-range_with_len new_log 0 (length plans) i i (record { number = i; log = [] }) (omega arith) (omega arith)) in
          ap (λ (log : List Entry). actions_of ring log ++ as_read (left_of (parts ring plans) i)) nothing;
    }

logs_at : (cs : List LogView) (ls : List Log) (i : ℕ) (d : LogView) (l : Log) → AreLogsOf cs ls → i < length cs → (get_or ls i l).entries.items ≡ (get_or cs i d).log
logs_at [] ls i d l h lt = absurd (omega arith)
logs_at (c ∷ cs) [] i d l h lt = absurd h
logs_at (c ∷ cs) (x ∷ ls) zero d l h lt = h.0.1
logs_at (c ∷ cs) (x ∷ ls) (suc i) d l h lt = logs_at cs ls i d l h.1 (omega (arith, lt))

-- a ring that is closed after all turns
pub ran : (plans : List Plan) (ring : ℕ) (start : Ring) (g : Lcg) (r : RingView ℕ) (o : RingOutcome) → IsOneThreadRing till 0 r → r.book.start ≡ start →
    so_far r ≡ after_turns start (new_run (length plans)) (turns g (parts ring plans)) → o.book ≡ r.book → AreLogsOf r.clients o.logs.items → IsRightRun o → IsRun plans ring start o.book o.logs.items
ran plans ring start g r o kept began so book logs right =
    let left : List (List Action) = parts ring plans in
    let n = parts_long ring plans in
    let all : AllDone ring left (after_turns start (new_run (length plans)) (turns g left)).logs = done_within (count_left left) start ring g left left (new_run (length plans)) refl (begun ring plans) in
    let done : AllDone ring left r.clients = subst (λ (x : Run). AllDone ring left x.logs) (sym so) all in
    let count = done.count in
    let long : length o.logs.items ≡ length r.clients = logs_long r.clients o.logs.items logs in
    let clients : length r.clients ≡ length plans = omega arith in
    let here : o.book.start ≡ start = ap (λ (b : BookView ℕ). b.start) book ∙ began in
    subst (λ (s : Ring). IsRun plans ring s o.book o.logs.items) here (record {
      begins = refl;
      book = subst (λ (b : BookView ℕ). IsBook till 0 b) (sym book) kept.book;
      settlement = settlement till (opening o.book.start 0) o.book.history right.ring right.legal_and_whole.0;
      of_seats = subst (λ (k : ℕ). AreOfSeats k o.book.history) (long ∙ clients) right.seats;
      fits = right.fits;
      count = long ∙ clients;
      logged = λ i p l at_p at_l. (
        right.by_number i l at_l,
        let lt = slice_get_within o.logs.items i l at_l in
            let same : get_or o.logs.items i l ≡ l = get_or_from_slice_get o.logs.items i l l at_l in
            let told : l.entries.items ≡ log_at r.clients i = ap (λ (x : Log). x.entries.items) (sym same) ∙ logs_at r.clients o.logs.items i (record { number = i; log = [] }) l logs (omega arith) in
            let own : left_of left i ≡ part ring p.actions.items = part_at ring plans i p (omega arith) ∙ ap (λ (x : Plan). part ring x.actions.items) (get_or_from_slice_get plans i p p at_p) in
            ap (actions_of ring) told ∙ (done.each i (omega arith) ∙ ap as_read own),
      );
    })

-- it is its run in turns
pub ran_in_turn : (settings : SettingsData) (plans : List Plan) (seed ring : ℕ) (r : RingView ℕ) (o : RingOutcome) → IsOneThreadRing till 0 r → r.book.start ≡ ring_of_data (ring_at settings ring) →
    so_far r ≡ after_turns (ring_of_data (ring_at settings ring)) (new_run (length plans)) (turns (generator seed ring) (parts ring plans)) → o.book ≡ r.book → AreLogsOf r.clients o.logs.items → IsRightRun o →
    length plans ≡ length settings.seats → map plan_actions plans ≡ plans_of settings → IsRunInTurn settings plans seed ring o
unfolding in_turn
ran_in_turn settings plans seed ring r o kept began so book logs right seats are =
    let start : Ring = ring_of_data (ring_at settings ring) in
    let whole : so_far r ≡ in_turn settings seed ring (ring_at settings ring) =
    so ∙ (ap (λ (n : ℕ). after_turns start (new_run n) (turns (generator seed ring) (parts ring plans))) seats
    ∙ ap (λ (xs : List (List Action)). after_turns start (new_run (length settings.seats)) (turns (generator seed ring) (map (part ring) xs))) are) in
    record {
      run = ran plans ring start (generator seed ring) r o kept began so book logs right;
      in_turn = record {
        history = ap (λ (b : BookView ℕ). b.history) book ∙ ap (λ (x : Run). x.history) whole;
        logs = subst (λ (x : Run). AreLogsOf x.logs o.logs.items) whole logs;
      };
    }

-- no part is longer than a plan may be
pub parts_short : (ring : ℕ) (plans : List Plan) → All IsShort plans → All (λ (p : List Action). length p ≤ action_limit) (parts ring plans)
parts_short ring plans short =
    All-map (λ (p : List Action). length p ≤ action_limit) (part ring) (map plan_actions plans)
    (All-map (λ (xs : List Action). length (part ring xs) ≤ action_limit) plan_actions plans
    (All-weaker IsShort (λ (p : Plan). length (part ring p.actions.items) ≤ action_limit)
    (λ p few. let is = length-filter (λ (a : Action). ring_of a == ring) p.actions.items in let most = count_by-le-length (λ (a : Action). ring_of a == ring) p.actions.items in omega arith) plans short))

-- more room changes nothing of a run
pub same_run : (old new : RingView ℕ) → IsSameRing old new → so_far new ≡ so_far old
same_run old new same =
    ap (λ (b : BookView ℕ). let run : Run = record { history = b.history; logs = new.clients } in run) same.book
    ∙ ap (λ (cs : List LogView). let run : Run = record { history = old.book.history; logs = cs } in run) same.clients
