-- What each seat has done and what it has left is its part of the plan.
use Rattle.std.proofs.Common.{◌≡◌, ℕ, zero, suc, ◌<◌, ◌≤◌, inl, inr, List, [], ◌∷◌, ◌++◌, Some, Option, All, map, drop, length, get_or, append_assoc, refl, sym, ap, ◌∙◌, arith, subst}
use Rattle.std.proofs.lemmas.List.{length-set, get_or-set_same, get_or-set_other, map-append, append-nil, nil_from_length}
use Rattle.std.proofs.lemmas.List.Sums.{get_or-le-sum_by}
use Rattle.std.proofs.lemmas.Bool.{cases_eq}
use Rattle.rand_pcg.specs.Lcg.{Lcg}
use Rattle.ring_model.specs.Ring.{Ring}
use Rattle.ring_model.specs.declared.events.Op.TheVariants as op
use Rattle.ring_model.specs.declared.events.Entry.{Entry}
use Rattle.ring_model.specs.declared.events.Entry.TheVariants as entry
use Rattle.ring_model.specs.History.{opening}
use Rattle.ring_model.specs.Resources.{till}
use Rattle.ring_model.specs.Surveys.{survey_at}
use Rattle.ring_logs.specs.LogView.{LogView}
use Rattle.one_thread_ring.specs.Rings.{grown, told_more}
use Rattle.ring_settings.specs.declared.actions.Action.{Action}
use Rattle.ring_settings.specs.declared.actions.Action.TheVariants as action
use Rattle.ring_farm.specs.Plans.{action_of, actions_of, ring_of}
use Rattle.farm_in_turn.specs.Turns.{left_of, count_left, next_seat, next_action, left_after, turns_within}
use Rattle.farm_in_turn.specs.InTurn.{Run, event_of, with_action, after_turns}
use Rattle.farm_in_turn.proofs.Waiting.{one_less, seat_drawn}

-- the log at a place
abbrev pub log_at : List LogView → ℕ → List Entry
log_at cs i = (get_or cs i (record { number = i; log = [] })).log

log_own : (cs : List LogView) (seat : ℕ) (es : List Entry) → seat < length cs → log_at (told_more cs seat es) seat ≡ log_at cs seat ++ es
log_own cs seat es l =
    let nobody : LogView = record { number = seat; log = [] } in
    ap (λ (t : LogView). t.log) (get_or-set_same cs seat (grown (get_or cs seat nobody) es) nobody l)

log_other : (cs : List LogView) (seat : ℕ) (es : List Entry) (i : ℕ) → (i ≡ seat → ⊥) → log_at (told_more cs seat es) i ≡ log_at cs i
log_other cs seat es i ne =
    let nobody : LogView = record { number = i; log = [] } in
    ap (λ (t : LogView). t.log) (get_or-set_other cs seat i (grown (get_or cs seat (record { number = seat; log = [] })) es) nobody ne)

-- the actions of a part, as a log of them reads
abbrev pub as_read : List Action → List (Option Action)
as_read actions = map (λ (a : Action). Some a) actions

-- what each seat's log reads and what the seat has left make its part, and all of it is for this ring
pub record AreDone (ring : ℕ) (parts left : List (List Action)) (logs : List LogView) : Type 0 where
  pub logs_count : length logs ≡ length parts
  pub count : length left ≡ length parts
  pub on : (i : ℕ) → i < length parts → All (λ (a : Action). ring_of a ≡ ring) (left_of left i)
  pub each : (i : ℕ) → i < length parts → actions_of ring (log_at logs i) ++ as_read (left_of left i) ≡ as_read (left_of parts i)

first_rest : (xs : List Action) (d : Action) → 0 < length xs → xs ≡ get_or xs 0 d ∷ drop 1 xs
first_rest [] d some = absurd (omega arith)
first_rest (x ∷ xs) d some = refl

All-rest : (ring : ℕ) (xs : List Action) → All (λ (a : Action). ring_of a ≡ ring) xs → All (λ (a : Action). ring_of a ≡ ring) (drop 1 xs)
All-rest ring [] h = h
All-rest ring (x ∷ xs) h = λ k d lt. h (suc k) d (omega (arith, lt))

-- one action more is done
pub done_more : (ring : ℕ) (parts left : List (List Action)) (logs : List LogView) (seat : ℕ) (e : Entry) → AreDone ring parts left logs → seat < length left → 0 < length (left_of left seat) →
    action_of ring e ≡ Some (next_action left seat) → AreDone ring parts (left_after left seat) (told_more logs seat (e ∷ []))
done_more ring parts left logs seat e is within some read =
    let own : List Action = left_of left seat in
    let count = is.count in
    let logs_count = is.logs_count in
    let after : left_of (left_after left seat) seat ≡ drop 1 own = get_or-set_same left seat (drop 1 own) [] within in
    record {
      logs_count = length-set logs seat (grown (get_or logs seat (record { number = seat; log = [] })) (e ∷ [])) ∙ logs_count;
      count = length-set left seat (drop 1 own) ∙ count;
      on = λ i lt. elim (cases_eq i seat) [
        | inl same ↦ subst (λ (k : ℕ). All (λ (a : Action). ring_of a ≡ ring) (left_of (left_after left seat) k)) (sym same)
            (subst (λ (xs : List Action). All (λ (a : Action). ring_of a ≡ ring) xs) (sym after) (All-rest ring own (is.on seat (omega arith))))
        | inr ne ↦ subst (λ (xs : List Action). All (λ (a : Action). ring_of a ≡ ring) xs) (sym (get_or-set_other left seat i (drop 1 own) [] ne)) (is.on i lt)
      ];
      each = λ i lt. elim (cases_eq i seat) [
        | inl same ↦ subst (λ (k : ℕ). actions_of ring (log_at (told_more logs seat (e ∷ [])) k) ++ as_read (left_of (left_after left seat) k) ≡ as_read (left_of parts k)) (sym same) (
            let log : List Entry = log_at logs seat in
            let front : actions_of ring (log_at (told_more logs seat (e ∷ [])) seat) ≡ actions_of ring log ++ Some (next_action left seat) ∷ [] =
            ap (actions_of ring) (log_own logs seat (e ∷ []) (omega arith)) ∙ (map-append (action_of ring) log (e ∷ []) ∙ ap (λ (o : Option Action). actions_of ring log ++ o ∷ []) read) in
            let whole : as_read own ≡ Some (next_action left seat) ∷ as_read (drop 1 own) = ap as_read (first_rest own (action.Survey 0) some) in
            rw (front, after) (append_assoc (actions_of ring log) (Some (next_action left seat) ∷ []) (as_read (drop 1 own))
            ∙ (ap (λ (xs : List (Option Action)). actions_of ring log ++ xs) (sym whole) ∙ is.each seat (omega arith))))
        | inr ne ↦ rw (log_other logs seat (e ∷ []) i ne, get_or-set_other left seat i (drop 1 own) [] ne) (is.each i lt)
      ];
    }

-- an action of the ring is read in the log
pub acted : (start : Ring) (ring : ℕ) (run : Run) (seat : ℕ) (a : Action) → ring_of a ≡ ring → (e : Entry) × (action_of ring e ≡ Some a) × ((with_action start run seat a).logs ≡ told_more run.logs seat (e ∷ []))
acted start ring run seat (action.Pass r machine order) on =
    (entry.Receipt (record { position = length run.history; event = event_of start run.history seat (op.Pass machine order) }), ap (λ (k : ℕ). Some (action.Pass k machine order)) (sym on), refl)
acted start ring run seat (action.Corrupt r machine value) on =
    (entry.Receipt (record { position = length run.history; event = event_of start run.history seat (op.Corrupt machine value) }), ap (λ (k : ℕ). Some (action.Corrupt k machine value)) (sym on), refl)
acted start ring run seat (action.Survey r) on =
    (entry.Survey (survey_at till (opening start 0) run.history (length run.history)), ap (λ (k : ℕ). Some (action.Survey k)) (sym on), refl)

-- each seat's log reads as its part
pub record AllDone (ring : ℕ) (parts : List (List Action)) (logs : List LogView) : Type 0 where
  pub count : length logs ≡ length parts
  pub each : (i : ℕ) → i < length parts → actions_of ring (log_at logs i) ≡ as_read (left_of parts i)

-- if nothing is left, each seat has done its part
all_done : (ring : ℕ) (parts left : List (List Action)) (logs : List LogView) → count_left left ≡ 0 → AreDone ring parts left logs → AllDone ring parts logs
all_done ring parts left logs none is = record {
  count = is.logs_count;
  each = λ i lt.
      let count = is.count in
      let few : length (left_of left i) ≤ count_left left = get_or-le-sum_by (λ (actions : List Action). length actions) left i [] (omega arith) in
      let nothing : left_of left i ≡ [] = nil_from_length (left_of left i) (omega arith) in
      sym (append-nil (actions_of ring (log_at logs i))) ∙ (ap (λ (xs : List Action). actions_of ring (log_at logs i) ++ as_read xs) (sym nothing) ∙ is.each i lt);
}

-- after all turns each seat has done its part
pub done_within : (n : ℕ) (start : Ring) (ring : ℕ) (g : Lcg) (parts left : List (List Action)) (run : Run) → n ≡ count_left left → AreDone ring parts left run.logs →
    AllDone ring parts (after_turns start run (turns_within n g left)).logs
unfolding after_turns turns_within
done_within zero start ring g parts left run e is = all_done ring parts left run.logs (sym e) is
done_within (suc n) start ring g parts left run e is =
    let next : ℕ × Lcg = next_seat g left in
    let drawn = seat_drawn g left (omega arith) in
    let less = one_less left next.0 drawn.0 drawn.1 in
    let a : Action = next_action left next.0 in
    let on : ring_of a ≡ ring = is.on next.0 (let count = is.count in let within = drawn.0 in omega arith) 0 (action.Survey 0) drawn.1 in
    let told = acted start ring run next.0 a on in
    let more : AreDone ring parts (left_after left next.0) (with_action start run next.0 a).logs = rw told.2 (done_more ring parts left run.logs next.0 told.0 is drawn.0 drawn.1 told.1) in
    done_within n start ring next.1 parts (left_after left next.0) (with_action start run next.0 a) (omega arith) more
