-- A block's event lines, one after the other.
use Rattle.std.proofs.Common.{◌≡◌, ℕ, ◌+◌, ◌<◌, ◌≤◌, ◌-◌, List, [], ◌∷◌, ◌++◌, length, take, drop, get_or, map, zero, suc, inl, inr, Option, Some, None, refl, sym, ◌∙◌, ap, subst, arith, append_assoc, append-nil, length-take}
use Rattle.std.specs.Prelude.{◌⊎◌}
use Rattle.std.proofs.lemmas.List.{take_more, map-append, drop_all, drop-take, drop-append-le}
use Rattle.ring_model.specs.Ring.{ring_with}
use Rattle.ring_model.specs.declared.events.Event.{Event}
use Rattle.ring_model.specs.History.{State, Step, next, IsLegal}
use Rattle.ring_model.specs.Resources.{till}
use Rattle.ring_model.proofs.Histories.{IsLegal-push}
use Rattle.ring_model.specs.Groups.{left_of}
use Rattle.ring_model.specs.Scanning.{opened}
use Rattle.saved_history.specs.declared.saved.SavedEvent.{SavedEvent}
use Rattle.ring_check.specs.declared.answers.Kind.{Kind}
use Rattle.ring_check.specs.declared.replay.Replay.{Replay}
use Rattle.ring_check.specs.Lines.{EventLine}
use Rattle.ring_check.specs.Table.{Before, event_of, first_state, event_fault, fault, after_lines}
use Rattle.ring_check.specs.Scan.{first_fault, in_block}
use Rattle.ring_check.specs.Replays.{state_of, StandsAt}
use Rattle.ring_check.specs.Members.{run_of}
use Rattle.ring_check.proofs.OpenRuns.{run_push}
use Rattle.ring_check.proofs.Steps.{event_means, step_keeps}
use Rattle.ring_check.proofs.Walk.{walk_bad, walk_good}
use Rattle.ring_check.proofs.Replaying.{Follows, stands_on}

-- event lines add nothing but their events
pub events_after : (version line rings n k : ℕ) (start : List ℕ) (h : List Event) (es : List SavedEvent) →
    after_lines (in_block version line rings n k start h) (map EventLine es) ≡ in_block version (line + length es) rings n k start (h ++ map event_of es)
events_after version line rings n k start h [] =
    let p : line ≡ line + 0 = omega arith in
    ap (λ (x : ℕ). in_block version x rings n k start h) p ∙ ap (λ (x : List Event). in_block version (line + 0) rings n k start x) (sym (append-nil h))
events_after version line rings n k start h (e ∷ es) =
    let p : line + 1 + length es ≡ line + length (e ∷ es) = omega arith in
    let q : (h ++ event_of e ∷ []) ++ map event_of es ≡ h ++ event_of e ∷ map event_of es = append_assoc h (event_of e ∷ []) (map event_of es) in
    events_after version (line + 1) rings n k start (h ++ event_of e ∷ []) es
    ∙ ap (λ (x : ℕ). in_block version x rings n k start ((h ++ event_of e ∷ []) ++ map event_of es)) p
    ∙ ap (λ (x : List Event). in_block version (line + length (e ∷ es)) rings n k start x) q

-- the first i events have no fault, and the replay is after them; the block that is open there begins at `first`
pub record AreGood (line k : ℕ) (start : List ℕ) (es : List SavedEvent) (first i : ℕ) (r : Replay) : Type 0 where
  pub within : first ≤ i
  pub run : map event_of (drop first (take i es)) ≡ run_of (map event_of (take i es))
  pub stands : StandsAt (ring_with k start) es i r
  pub legal : IsLegal till (first_state (ring_with k start)) (map event_of (take i es))
  pub none : (version rings : ℕ) → first_fault (in_block version line rings (length start) k start []) (map EventLine (take i es)) ≡ None
  pub long : length r.values.items ≡ length start

-- where the open block begins after one event more, whose group has this many left
abbrev pub BeginsAt : ℕ → ℕ → ℕ → ℕ → Type 0
BeginsAt first i left next = ((left ≡ 0) × (next ≡ i + 1)) ⊎ ((1 ≤ left) × (next ≡ first))

-- an open block with one event more
opened_some : (left : ℕ) (run : List Event) → 1 ≤ left → opened left run ≡ run
opened_some zero run l = absurd (omega arith)
opened_some (suc left) run l = refl

module _ (es : List SavedEvent) (first i : ℕ) (d : SavedEvent) (lt : i < length es) (within : first ≤ i)
    (run : map event_of (drop first (take i es)) ≡ run_of (map event_of (take i es))) where
  run_more : run_of (map event_of (take (i + 1) es)) ≡ opened (left_of (event_of (get_or es i d)).op) (map event_of (drop first (take i es)) ++ event_of (get_or es i d) ∷ [])
  run_more =
      ap (λ (u : List SavedEvent). run_of (map event_of u)) (take_more es i d lt)
      ∙ ap (λ (u : List Event). run_of u) (map-append event_of (take i es) (get_or es i d ∷ []))
      ∙ run_push (map event_of (take i es)) (event_of (get_or es i d))
      ∙ ap (λ (u : List Event). opened (left_of (event_of (get_or es i d)).op) (u ++ event_of (get_or es i d) ∷ [])) (sym run)

  pub run_next : (next : ℕ) → BeginsAt first i (left_of (event_of (get_or es i d)).op) next →
      (next ≤ i + 1) × (map event_of (drop next (take (i + 1) es)) ≡ run_of (map event_of (take (i + 1) es)))
  unfolding run_more
  run_next next (inl w) =
      let n : length (take (i + 1) es) ≡ i + 1 = omega (arith, length-take (i + 1) es) in
      let none : drop next (take (i + 1) es) ≡ [] = drop_all next (take (i + 1) es) (omega (arith, w.1)) in
      let e = w.1 in (
        omega arith,
        ap (λ (u : List SavedEvent). map event_of u) none
            ∙ sym (run_more ∙ ap (λ (x : ℕ). opened x (map event_of (drop first (take i es)) ++ event_of (get_or es i d) ∷ [])) w.0),
      )
  run_next next (inr w) =
      let n : length (take i es) ≡ i = omega (arith, length-take i es) in
      let e = w.1 in
      let more : drop first (take (i + 1) es) ≡ drop first (take i es) ++ get_or es i d ∷ [] =
      ap (λ (u : List SavedEvent). drop first u) (take_more es i d lt) ∙ drop-append-le first (take i es) (get_or es i d ∷ []) (omega arith) in (
        omega arith,
        ap (λ (x : ℕ). map event_of (drop x (take (i + 1) es))) e ∙ ap (λ (u : List SavedEvent). map event_of u) more
            ∙ map-append event_of (drop first (take i es)) (get_or es i d ∷ [])
            ∙ sym (run_more ∙ opened_some (left_of (event_of (get_or es i d)).op) (map event_of (drop first (take i es)) ++ event_of (get_or es i d) ∷ []) w.0),
      )

module _ (line k : ℕ) (start : List ℕ) (es : List SavedEvent) (first i : ℕ) (d : SavedEvent) (lt : i < length es) (r : Replay) (good : AreGood line k start es first i r) where
  -- after the first i events
  at : ℕ → ℕ → Before
  at version rings = in_block version (line + i) rings (length start) k start (map event_of (take i es))

  here : (version rings : ℕ) → after_lines (in_block version line rings (length start) k start []) (map EventLine (take i es)) ≡ at version rings
  unfolding at
  here version rings =
      let long : length (take i es) ≡ i = omega (arith, length-take i es) in
      events_after version line rings (length start) k start [] (take i es)
      ∙ ap (λ (x : ℕ). in_block version (line + x) rings (length start) k start (map event_of (take i es))) long

  -- the fault of the event at the place of the replay
  wrong : Option Kind
  wrong = event_fault (length r.values.items) (map event_of (take (i - first) (drop first es))) (state_of r) (event_of (get_or es i d))

  -- is wrong with its line
  faulty : (version rings : ℕ) → fault (at version rings) (EventLine (get_or es i d)) ≡ wrong
  unfolding at wrong
  faulty version rings =
      let w = good.within in
      let n : first + (i - first) ≡ i = omega arith in
      let slice : take (i - first) (drop first es) ≡ drop first (take i es) = sym (drop-take first (i - first) es) ∙ ap (λ (x : ℕ). drop first (take x es)) n in
      rw (good.stands.stands.state, good.long, slice, good.run) refl

  pub event_bad : (kind : Kind) → event_fault (length r.values.items) (map event_of (take (i - first) (drop first es))) (state_of r) (event_of (get_or es i d)) ≡ Some kind → (version rings : ℕ) →
      first_fault (in_block version line rings (length start) k start []) (map EventLine es) ≡ Some (line + i + 1, kind)
  unfolding at here wrong faulty
  event_bad kind h version rings =
      walk_bad EventLine (in_block version line rings (length start) k start []) es i d lt (at version rings) (good.none version rings) (here version rings) kind (faulty version rings ∙ h)

  pub event_step : event_fault (length r.values.items) (map event_of (take (i - first) (drop first es))) (state_of r) (event_of (get_or es i d)) ≡ None →
      Step till (state_of r) (event_of (get_or es i d)) (next till (state_of r) (event_of (get_or es i d)).op)
  event_step h = (event_means (length r.values.items) (map event_of (take (i - first) (drop first es))) (state_of r) (get_or es i d) refl h).1

  pub event_good : (t : Replay) (front : ℕ) → event_fault (length r.values.items) (map event_of (take (i - first) (drop first es))) (state_of r) (event_of (get_or es i d)) ≡ None →
      BeginsAt first i (left_of (event_of (get_or es i d)).op) front → Follows r (event_of (get_or es i d)) t → AreGood line k start es front (i + 1) t
  unfolding at here wrong faulty event_step
  event_good t front h begins f =
      let e = event_of (get_or es i d) in
      let step = event_step h in
      let push : map event_of (take (i + 1) es) ≡ map event_of (take i es) ++ e ∷ [] =
      ap (λ (u : List SavedEvent). map event_of u) (take_more es i d lt) ∙ map-append event_of (take i es) (get_or es i d ∷ []) in
      let kept = step_keeps (state_of r) e.op e.reply good.stands.stands.ring step in
      let more = run_next es first i d lt good.within good.run front begins in
      record {
        within = more.0;
        run = more.1;
        stands = stands_on k start es i d r t lt good.stands step f;
        legal = subst (λ (u : List Event). IsLegal till (first_state (ring_with k start)) u) (sym push)
            (IsLegal-push till (first_state (ring_with k start)) (map event_of (take i es)) e good.legal
            (subst (λ (x : State ℕ). Step till x e (next till x e.op)) (sym good.stands.stands.state) step));
        none = λ version rings. walk_good EventLine (in_block version line rings (length start) k start []) es i d lt (at version rings) (good.none version rings) (here version rings) (faulty version rings ∙ h);
        long = ap (λ (x : State ℕ). length x.ring.values) f.state ∙ kept.long ∙ good.long;
      }
