-- The events of a ring, one after the other.
use Rattle.std.proofs.Common.{◌≡◌, ℕ, zero, suc, ◌+◌, ◌-◌, ◌<◌, ◌≤◌, List, [], ◌∷◌, ◌++◌, length, take, drop, get_or, set, map, Bool, true, false, cond, refl, sym, ◌∙◌, ap, subst, arith, append_assoc, append-nil, length-take, length-append}
use Rattle.std.specs.Prelude.{not, ◌||◌, Option, None, Some}
use Rattle.std.proofs.lemmas.Bool.{cases_Bool}
use Rattle.std.proofs.lemmas.List.{take_more, drop_more, take-append-drop, map-append, drop-take, take_all, take-map, length-set, length-map}
use Rattle.ring_model.specs.declared.events.Op.{Op}
use Rattle.ring_model.specs.declared.events.Op.TheVariants.{Pass, Member, Corrupt}
use Rattle.ring_model.specs.declared.events.Reply.{Reply}
use Rattle.ring_model.specs.declared.events.Event.{Event}
use Rattle.ring_model.specs.Ring.{Ring, ring_with, is_privileged}
use Rattle.ring_model.specs.History.{State, next, reply, after, granted_state}
use Rattle.ring_model.specs.Groups.{left_of, left_after}
use Rattle.ring_model.specs.Resources.{till}
use Rattle.ring_model.specs.Surveys.{calm}
use Rattle.ring_model.proofs.Histories.{calm_next, after-push, calm-push, grants-next}
use Rattle.saved_history.specs.declared.saved.SavedEvent.{SavedEvent}
use Rattle.ring_check.specs.Lines.{Line, EventLine}
use Rattle.ring_check.specs.Members.{run_of}
use Rattle.ring_check.specs.Scan.{in_block}
use Rattle.ring_check.specs.Table.{Before, event_of, first_state, in_range, event_fault}
use Rattle.ring_check.proofs.EventLines.{BeginsAt, run_next}
use Rattle.ring_check.proofs.OpenRuns.{left_told}
use Rattle.ring_check.proofs.Steps.{calm_next_le}
use Rattle.bad_lines.specs.declared.replay.Replay.{Replay}
use Rattle.bad_lines.specs.declared.wrongs.Bad.{Bad}
use Rattle.bad_lines.specs.declared.wrongs.BadLine.{BadLine}
use Rattle.bad_lines.specs.BadLines.{Known, known, bad_of, bad, told, told_of, after_known, after_all, bad_among}
use Rattle.bad_lines.specs.Replays.{own, own_all, state_of, Stands, AreCallable}
use Rattle.bad_lines.specs.Wrongs.{event_wrong}
use Rattle.bad_lines.proofs.Firsts.{told_known}
use Rattle.bad_lines.proofs.Owns.{own_after, own_push, own_left, own_bad}
use Rattle.bad_lines.proofs.Walks.{all_append, among_append, among_more, all_more, lost_among, lost_all, none_map}

-- a call changes neither K nor the number of machines
pub next_long : (a : State ℕ) (o : Op) → length (next till a o).ring.values ≡ length a.ring.values
next_long a (Pass machine order) = go (is_privileged a.ring.values machine)
  where
    go : (b : Bool) → length (cond b (granted_state till a machine order) a).ring.values ≡ length a.ring.values
    go true = length-set a.ring.values machine _
    go false = refl
next_long a (Member machine order left) = go (is_privileged a.ring.values machine)
  where
    go : (b : Bool) → length (cond b (granted_state till a machine order) a).ring.values ≡ length a.ring.values
    go true = length-set a.ring.values machine _
    go false = refl
next_long a (Corrupt machine value) = length-set a.ring.values machine value

-- a replay that has done one event more
pub record Follows (r : Replay) (e : Event) (t : Replay) : Type 0 where
  pub state : state_of t ≡ next till (state_of r) e.op
  pub calm : t.calm ≡ calm_next r.calm (reply till (state_of r) e.op)

pub stands_first : (start : Ring) (r : Replay) → state_of r ≡ first_state start → r.calm ≡ 0 → Stands start [] r
stands_first start r s c =
    let g : r.grants ≡ 0 = ap (λ (x : State ℕ). x.grants) s in
    record { state = sym s; calm = sym c; grants = omega arith; short = omega arith }

pub stands_more : (start : Ring) (h : List Event) (r t : Replay) (e : Event) → Stands start h r → Follows r e t → Stands start (h ++ e ∷ []) t
stands_more start h r t e s f =
    let n : length (h ++ e ∷ []) ≡ length h + 1 = length-append h (e ∷ []) in
    let g : t.grants ≤ r.grants + 1 = subst (λ (x : State ℕ). x.grants ≤ r.grants + 1) (sym f.state) (grants-next till (state_of r) e.op) in
    let c : calm_next r.calm (reply till (state_of r) e.op) ≤ r.calm + 1 = calm_next_le r.calm (reply till (state_of r) e.op) in
    let same = f.calm in
    let few = s.grants in
    let short = s.short in
    record {
      state = after-push till (first_state start) h e ∙ ap (λ (x : State ℕ). next till x e.op) s.state ∙ sym f.state;
      calm = ap (λ (u : List Event). calm u) (own_push (first_state start) h e)
          ∙ calm-push (own_all (first_state start) h) (own (after till (first_state start) h) e)
          ∙ ap (λ (x : ℕ). calm_next x (reply till (after till (first_state start) h) e.op)) s.calm
          ∙ ap (λ (x : State ℕ). calm_next r.calm (reply till x e.op)) s.state
          ∙ sym f.calm;
      grants = omega arith;
      short = omega arith;
    }

-- calls that a ring can answer, one more
pub callable_push : (n : ℕ) (a : State ℕ) (es : List Event) (e : Event) → AreCallable n a es → in_range n (after till a es).ring.k e ≡ true → AreCallable n a (es ++ e ∷ [])
callable_push n a [] e c i = (i, tt)
callable_push n a (d ∷ es) e c i = (c.0, callable_push n (next till a d.op) es e c.1 i)

pub callable_at : (n : ℕ) (a : State ℕ) (front : List Event) (e : Event) (back : List Event) → AreCallable n a (front ++ e ∷ back) → in_range n (after till a front).ring.k e ≡ true
callable_at n a [] e back c = c.0
callable_at n a (d ∷ front) e back c = callable_at n (next till a d.op) front e back c.1

pub push_events : (es : List SavedEvent) (i : ℕ) (d : SavedEvent) → i < length es → map event_of (take (i + 1) es) ≡ map event_of (take i es) ++ event_of (get_or es i d) ∷ []
push_events es i d lt = ap (λ (u : List SavedEvent). map event_of u) (take_more es i d lt) ∙ map-append event_of (take i es) (get_or es i d ∷ [])

module _ (start : Ring) (version rings : ℕ) where
  -- after these events of the ring
  abbrev pub known_at : ℕ → List Event → Known
  known_at line h = known (in_block version line rings (length start.values) start.k start.values (own_all (first_state start) h))

  known_step : (line : ℕ) (h : List Event) (e : SavedEvent) → in_range (length start.values) (after till (first_state start) h).ring.k (event_of e) ≡ true →
      after_known (known_at line h) (EventLine e) ≡ known_at (line + 1) (h ++ event_of e ∷ [])
  known_step line h e i =
      let n = length start.values in
      let at : Bool → List Event → Known = λ t u. record { lost = not t; before = in_block version (line + 1) rings n start.k start.values u } in
      ap (λ (x : State ℕ). at (in_range n x.ring.k (event_of e)) (own_all (first_state start) h ++ own x (event_of e) ∷ [])) (own_after (first_state start) h)
      ∙ ap (λ (t : Bool). at t (own_all (first_state start) h ++ own (after till (first_state start) h) (event_of e) ∷ [])) i
      ∙ ap (λ (u : List Event). at true u) (sym (own_push (first_state start) h (event_of e)))

  pub known_all : (line : ℕ) (h : List Event) (es : List SavedEvent) → AreCallable (length start.values) (after till (first_state start) h) (map event_of es) →
      after_all (known_at line h) (map EventLine es) ≡ known_at (line + length es) (h ++ map event_of es)
  known_all line h [] c =
      let p : line ≡ line + 0 = omega arith in
      ap (λ (x : ℕ). known_at x h) p ∙ ap (λ (u : List Event). known_at (line + 0) u) (sym (append-nil h))
  known_all line h (e ∷ es) c =
      let p : line + 1 + length es ≡ line + length (e ∷ es) = omega arith in
      let q : (h ++ event_of e ∷ []) ++ map event_of es ≡ h ++ event_of e ∷ map event_of es = append_assoc h (event_of e ∷ []) (map event_of es) in
      let more = subst (λ (x : State ℕ). AreCallable (length start.values) x (map event_of es)) (sym (after-push till (first_state start) h (event_of e))) c.1 in
      ap (λ (k : Known). after_all k (map EventLine es)) (known_step line h e c.0)
      ∙ known_all (line + 1) (h ++ event_of e ∷ []) es more
      ∙ ap (λ (x : ℕ). known_at x ((h ++ event_of e ∷ []) ++ map event_of es)) p
      ∙ ap (λ (u : List Event). known_at (line + length (e ∷ es)) u) q

  -- the fault of an event there
  pub event_bad : (line : ℕ) (h : List Event) (a : State ℕ) (e : SavedEvent) → after till (first_state start) h ≡ a →
      bad (known_at line h).before (EventLine e)
      ≡ bad_of (event_fault (length start.values) (run_of h) a (event_of e)) (event_wrong (length start.values) (run_of h) (left_after h) a (event_of e))
  event_bad line h a e s =
      let n = length start.values in
      let run = run_of (own_all (first_state start) h) in
      ap (λ (x : State ℕ). bad_of (event_fault n run x (event_of e)) (event_wrong n run (left_after (own_all (first_state start) h)) x (event_of e))) (own_after (first_state start) h ∙ s)
      ∙ ap (λ (l : ℕ). bad_of (event_fault n run a (event_of e)) (event_wrong n run l a (event_of e))) (own_left (first_state start) h)
      ∙ own_bad n (first_state start) a h (left_after h) (event_of e)

-- the bad lines among the first i events are reported, each of these is a call that the ring can answer, and the replay is
-- after them; the block that is open there begins at `first`
pub record AreTold (line : ℕ) (start : Ring) (es : List SavedEvent) (old : List BadLine) (first i : ℕ) (r : Replay) (out : List BadLine) : Type 0 where
  pub within : first ≤ i
  pub run : map event_of (drop first (take i es)) ≡ run_of (map event_of (take i es))
  pub stands : Stands start (map event_of (take i es)) r
  pub long : length r.state.values ≡ length start.values
  pub callable : AreCallable (length start.values) (first_state start) (map event_of (take i es))
  pub told : (version rings : ℕ) → out ≡ old ++ bad_among (known_at start version rings line []) (map EventLine (take i es))

module _ (line : ℕ) (start : Ring) (es : List SavedEvent) (old : List BadLine) (first i : ℕ) (d : SavedEvent) (lt : i < length es) (r : Replay) (out : List BadLine)
    (so_far : AreTold line start es old first i r out) where
  -- the fault that the replay finds
  abbrev pub Found : ℕ → Option Bad → Type 0
  Found last found =
      found ≡ bad_of (event_fault (length r.state.values) (map event_of (take (i - first) (drop first es))) (state_of r) (event_of (get_or es i d)))
      (event_wrong (length r.state.values) (map event_of (take (i - first) (drop first es))) last (state_of r) (event_of (get_or es i d)))

  here : (version rings : ℕ) → after_all (known_at start version rings line []) (map EventLine (take i es)) ≡ known_at start version rings (line + i) (map event_of (take i es))
  here version rings =
      let n : length (take i es) ≡ i = omega (arith, length-take i es) in
      known_all start version rings line [] (take i es) so_far.callable
      ∙ ap (λ (x : ℕ). known_at start version rings (line + x) (map event_of (take i es))) n

  found_is : (last : ℕ) (found : Option Bad) → last ≡ left_after (take i (map event_of es)) → Found last found → (version rings : ℕ) →
      told_of (after_all (known_at start version rings line []) (map EventLine (take i es))) (EventLine (get_or es i d)) ≡ told (line + i) found
  unfolding here
  found_is last found l f version rings =
      let w = so_far.within in
      let n : first + (i - first) ≡ i = omega arith in
      let slice : take (i - first) (drop first es) ≡ drop first (take i es) = sym (drop-take first (i - first) es) ∙ ap (λ (x : ℕ). drop first (take x es)) n in
      let runs : map event_of (take (i - first) (drop first es)) ≡ run_of (map event_of (take i es)) = ap (λ (u : List SavedEvent). map event_of u) slice ∙ so_far.run in
      let lefts : last ≡ left_after (map event_of (take i es)) = l ∙ ap (λ (u : List Event). left_after u) (take-map event_of i es) in
      let g : ℕ → List Event → ℕ → Option Bad = λ m u q. bad_of (event_fault m u (state_of r) (event_of (get_or es i d))) (event_wrong m u q (state_of r) (event_of (get_or es i d))) in
      ap (λ (k : Known). told_of k (EventLine (get_or es i d))) (here version rings)
      ∙ told_known (known_at start version rings (line + i) (map event_of (take i es))).before (EventLine (get_or es i d))
      ∙ ap (λ (x : Option Bad). told (line + i) x)
      (event_bad start version rings (line + i) (map event_of (take i es)) (state_of r) (get_or es i d) so_far.stands.state
      ∙ sym (f ∙ ap (λ (m : ℕ). g m (map event_of (take (i - first) (drop first es))) last) so_far.long
      ∙ ap (λ (u : List Event). g (length start.values) u last) runs
      ∙ ap (λ (q : ℕ). g (length start.values) (run_of (map event_of (take i es))) q) lefts))

  told_next : (last : ℕ) (found : Option Bad) (new : List BadLine) → last ≡ left_after (take i (map event_of es)) → Found last found → new ≡ out ++ told (line + i) found → (version rings : ℕ) →
      new ≡ old ++ bad_among (known_at start version rings line []) (map EventLine (take (i + 1) es))
  unfolding found_is
  told_next last found new l f e version rings =
      let k = known_at start version rings line [] in
      e ∙ ap (λ (u : List BadLine). u ++ told (line + i) found) (so_far.told version rings)
      ∙ append_assoc old (bad_among k (map EventLine (take i es))) (told (line + i) found)
      ∙ ap (λ (u : List BadLine). old ++ u)
      (ap (λ (u : List BadLine). bad_among k (map EventLine (take i es)) ++ u) (sym (found_is last found l f version rings))
      ∙ sym (among_more EventLine k es i d lt))

  -- an event that is a call of the ring
  pub told_on : (last : ℕ) (found : Option Bad) (new : List BadLine) (t : Replay) (next_first : ℕ) → last ≡ left_after (take i (map event_of es)) → Found last found → new ≡ out ++ told (line + i) found →
      in_range (length r.state.values) r.state.k (event_of (get_or es i d)) ≡ true → Follows r (event_of (get_or es i d)) t →
      BeginsAt first i (left_of (event_of (get_or es i d)).op) next_first → AreTold line start es old next_first (i + 1) t new
  unfolding told_next
  told_on last found new t next_first l f e call follows begins =
      let ev = event_of (get_or es i d) in
      let more = run_next es first i d lt so_far.within so_far.run next_first begins in
      let push = push_events es i d lt in
      let in_start : in_range (length start.values) (after till (first_state start) (map event_of (take i es))).ring.k ev ≡ true =
      ap (λ (x : State ℕ). in_range (length start.values) x.ring.k ev) so_far.stands.state
      ∙ ap (λ (m : ℕ). in_range m r.state.k ev) (sym so_far.long) ∙ call in
      record {
        within = more.0;
        run = more.1;
        stands = subst (λ (u : List Event). Stands start u t) (sym push) (stands_more start (map event_of (take i es)) r t ev so_far.stands follows);
        long = ap (λ (x : State ℕ). length x.ring.values) follows.state ∙ next_long (state_of r) ev.op ∙ so_far.long;
        callable = subst (λ (u : List Event). AreCallable (length start.values) (first_state start) u) (sym push)
            (callable_push (length start.values) (first_state start) (map event_of (take i es)) ev so_far.callable in_start);
        told = told_next last found new l f e;
      }

  -- an event that is not: after it nothing is reported, and the ring is lost
  lost_here : in_range (length r.state.values) r.state.k (event_of (get_or es i d)) ≡ false → (version rings : ℕ) →
      (after_all (known_at start version rings line []) (map EventLine (take (i + 1) es))).lost ≡ true
  unfolding here
  lost_here call version rings =
      let ev = event_of (get_or es i d) in
      let k = known_at start version rings (line + i) (map event_of (take i es)) in
      let out_start : in_range (length start.values) (after till (first_state start) (own_all (first_state start) (map event_of (take i es)))).ring.k ev ≡ false =
      ap (λ (x : State ℕ). in_range (length start.values) x.ring.k ev) (own_after (first_state start) (map event_of (take i es)) ∙ so_far.stands.state)
      ∙ ap (λ (m : ℕ). in_range m r.state.k ev) (sym so_far.long) ∙ call in
      ap (λ (x : Known). x.lost) (all_more EventLine (known_at start version rings line []) es i d lt)
      ∙ ap (λ (x : Known). (after_known x (EventLine (get_or es i d))).lost) (here version rings)
      ∙ ap not out_start

  parts : map EventLine es ≡ map EventLine (take (i + 1) es) ++ map EventLine (drop (i + 1) es)
  parts = ap (λ (u : List SavedEvent). map EventLine u) (sym (take-append-drop (i + 1) es)) ∙ map-append EventLine (take (i + 1) es) (drop (i + 1) es)

  pub told_stop : (last : ℕ) (found : Option Bad) (new : List BadLine) → last ≡ left_after (take i (map event_of es)) → Found last found → new ≡ out ++ told (line + i) found →
      in_range (length r.state.values) r.state.k (event_of (get_or es i d)) ≡ false → (version rings : ℕ) →
      new ≡ old ++ bad_among (known_at start version rings line []) (map EventLine es)
  unfolding told_next lost_here parts
  told_stop last found new l f e call version rings =
      let k = known_at start version rings line [] in
      let none : bad_among (after_all k (map EventLine (take (i + 1) es))) (map EventLine (drop (i + 1) es)) ≡ [] =
      lost_among _ (map EventLine (drop (i + 1) es)) (none_map EventLine (drop (i + 1) es) (λ x. refl)) (lost_here call version rings) in
      told_next last found new l f e version rings
      ∙ ap (λ (u : List BadLine). old ++ u)
      (sym (append-nil (bad_among k (map EventLine (take (i + 1) es))))
      ∙ ap (λ (u : List BadLine). bad_among k (map EventLine (take (i + 1) es)) ++ u) (sym none)
      ∙ sym (ap (λ (u : List Line). bad_among k u) parts ∙ among_append k (map EventLine (take (i + 1) es)) (map EventLine (drop (i + 1) es))))

  pub lost_stop : in_range (length r.state.values) r.state.k (event_of (get_or es i d)) ≡ false → (version rings : ℕ) →
      (after_all (known_at start version rings line []) (map EventLine es)).lost ≡ true
  unfolding lost_here parts
  lost_stop call version rings =
      let k = known_at start version rings line [] in
      ap (λ (u : List Line). (after_all k u).lost) parts
      ∙ ap (λ (x : Known). x.lost) (all_append k (map EventLine (take (i + 1) es)) (map EventLine (drop (i + 1) es)))
      ∙ lost_all _ (map EventLine (drop (i + 1) es)) (none_map EventLine (drop (i + 1) es) (λ x. refl)) (lost_here call version rings)

-- all events are reported
pub told_all : (line : ℕ) (start : Ring) (es : List SavedEvent) (old : List BadLine) (first i : ℕ) (r : Replay) (out : List BadLine) → length es ≤ i → AreTold line start es old first i r out →
    ((version rings : ℕ) → out ≡ old ++ bad_among (known_at start version rings line []) (map EventLine es))
    × AreCallable (length start.values) (first_state start) (map event_of es)
    × ((version rings : ℕ) → (after_all (known_at start version rings line []) (map EventLine es)).lost ≡ false)
told_all line start es old first i r out l t =
    let whole : take i es ≡ es = take_all i es l in
    let callable : AreCallable (length start.values) (first_state start) (map event_of es) = subst (λ (u : List SavedEvent). AreCallable (length start.values) (first_state start) (map event_of u)) whole t.callable in (
      λ version rings. t.told version rings ∙ ap (λ (u : List SavedEvent). old ++ bad_among (known_at start version rings line []) (map EventLine u)) whole,
      callable,
      λ version rings. ap (λ (k : Known). k.lost) (known_all start version rings line [] es callable),
    )

-- how many members are left after an event
pub left_here : (es : List SavedEvent) (i : ℕ) (d : SavedEvent) → i < length es → left_after (take (i + 1) (map event_of es)) ≡ left_of (event_of (get_or es i d)).op
left_here es i d lt =
    let some : 0 < i + 1 = omega arith in
    let within : i + 1 ≤ length es = omega arith in
    let back : i + 1 - 1 ≡ i = omega arith in
    left_told es (i + 1) d some within ∙ ap (λ (x : ℕ). left_of (event_of (get_or es x d)).op) back
