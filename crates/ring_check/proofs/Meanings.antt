-- A text is legal exactly where its blocks describe legal histories and of surveys of them.
use Rattle.std.proofs.Common.{◌≡◌, ℕ, ◌+◌, ◌<◌, ◌≤◌, List, [], ◌∷◌, ◌++◌, length, take, map, Bool, true, false, cond, Option, Some, None, refl, sym, ◌∙◌, ap, subst, arith, ◌&&◌, ◌||◌, eqb, inl, inr}
use Rattle.std.specs.Prelude.{nat_le, nat_lt, ◌⊎◌}
use Rattle.std.specs.List.{All, list_all, flat_map}
use Rattle.std.proofs.lemmas.List.Elements.{All-cons, All-head, All-tail}
use Rattle.std.proofs.lemmas.Bool.{cases_lt}
use Rattle.std.proofs.lemmas.List.{length-map}
use Rattle.ring_model.specs.Ring.{ring_with}
use Rattle.ring_model.specs.Limits.{seat_limit}
use Rattle.ring_model.specs.declared.events.Event.{Event}
use Rattle.ring_model.specs.declared.events.Survey.{Survey}
use Rattle.ring_model.specs.History.{State, after, IsLegal}
use Rattle.ring_model.specs.Groups.{left_after}
use Rattle.ring_model.specs.Scanning.{AllMayCome}
use Rattle.ring_model.specs.Resources.{till}
use Rattle.ring_model.specs.Surveys.{survey_at}
use Rattle.ring_model.proofs.Histories.{after-push}
use Rattle.ring_model.proofs.Scanning.{whole_by_events}
use Rattle.saved_history.specs.declared.saved.SavedEvent.{SavedEvent}
use Rattle.saved_history.specs.declared.saved.SavedSurvey.{SavedSurvey}
use Rattle.saved_history.specs.declared.saved.SavedRing.{SavedRing}
use Rattle.saved_history.specs.Content.{Block, block_of}
use Rattle.ring_check.specs.declared.answers.Kind.{Kind}
use Rattle.ring_check.specs.declared.answers.Kind.TheVariants.{Range, Count, Parameter, Survey as SurveyKind, Group}
use Rattle.ring_check.specs.Lines.{EventLine, SurveyLine, block_lines, lines}
use Rattle.ring_check.specs.Table.{Before, nothing, event_of, first_state, event_fault, end_fault, is_onward, is_surveyed, same_survey, fault, after_lines, are_parameters}
use Rattle.ring_check.specs.Scan.{or_behind, first_fault, in_block}
use Rattle.ring_check.specs.Legal.{history}
use Rattle.ring_check.specs.Meaning.{survey_of, AreOnward, AreInOrder, IsRightSurvey, IsRightBlock, AreRightBlocks, LegalMeans}
use Rattle.ring_check.proofs.Booleans.{both, joined, or_second, true_of, same, below, at_most, eq_true, lt_true, le_true}
use Rattle.ring_check.specs.Members.{run_of}
use Rattle.ring_check.proofs.OpenRuns.{run_push, run_open, come_means, come_true}
use Rattle.ring_check.proofs.Steps.{event_means, event_fine, IsWell, well_push}
use Rattle.ring_check.proofs.Scans.{or_else, fault_append, good_none, none_good, version_kept}
use Rattle.ring_check.proofs.SurveyLines.{in_surveys}
use Rattle.ring_check.proofs.Blocks.{parameters_mean, parameters_true, ring_of, head_bad, index_bad, start_bad, block_parts, block_leaves}
use Rattle.ring_check.proofs.BlockLines.{text_parts}

-- Parts of a search that finds nothing.

behind_none : (f : Option Kind) (line : ℕ) (more : Option (ℕ × Kind)) → or_behind f line more ≡ None → (f ≡ None) × (more ≡ None)
behind_none None line more e = (refl, e)
behind_none (Some kind) line more e = absurd (cc)

else_none : (f more : Option (ℕ × Kind)) → or_else f more ≡ None → (f ≡ None) × (more ≡ None)
else_none None more e = (refl, e)
else_none (Some bad) more e = absurd (cc)

count_none : (c : Bool) → cond {A = Option Kind} c None (Some Count) ≡ None → c ≡ true
count_none true e = refl
count_none false e = absurd (cc)

-- an end line without a fault says how many events there are, and is in no block
end_means : (said : ℕ) (h : List Event) → end_fault said h ≡ None → (said ≡ length h) × (left_after h ≡ 0)
end_means said h e = go (eqb said (length h)) (eqb (left_after h) 0) refl refl e
  where
    go : (x y : Bool) → eqb said (length h) ≡ x → eqb (left_after h) 0 ≡ y → cond {A = Option Kind} x (cond y None (Some Group)) (Some Count) ≡ None → (said ≡ length h) × (left_after h ≡ 0)
    go true true p q e = (same said (length h) p, same (left_after h) 0 q)
    go true false p q e = absurd (cc)
    go false y p q e = absurd (cc)

end_fine : (said : ℕ) (h : List Event) → said ≡ length h → left_after h ≡ 0 → end_fault said h ≡ None
end_fine said h p q = rw (eq_true said (length h) p, eq_true (left_after h) 0 q) refl

-- The events of a block.

pub events_mean : (version line rings k : ℕ) (start : List ℕ) (h : List Event) (es : List SavedEvent) → IsWell k start h →
    first_fault (in_block version line rings (length start) k start h) (map EventLine es) ≡ None →
    All (λ (e : Event). e.seat < seat_limit) (map event_of es) × IsLegal till (after till (first_state (ring_with k start)) h) (map event_of es)
    × AllMayCome (length start) (run_of h) (map event_of es)
events_mean version line rings k start h [] w none = ((λ k d l. absurd (omega arith)), tt, tt)
events_mean version line rings k start h (e ∷ es) w none =
    let a = after till (first_state (ring_with k start)) h in
    let p = behind_none (event_fault (length start) (run_of h) a (event_of e)) line (first_fault (in_block version (line + 1) rings (length start) k start (h ++ event_of e ∷ [])) (map EventLine es)) none in
    let m = event_means (length start) (run_of h) a e w.long p.0 in
    let more = events_mean version (line + 1) rings k start (h ++ event_of e ∷ []) es (well_push k start h (event_of e) w m.1) p.1 in (
      All-cons (λ (e : Event). e.seat < seat_limit) (event_of e) (map event_of es) m.0 more.0,
      (m.1, subst (λ (x : State ℕ). IsLegal till x (map event_of es)) (after-push till (first_state (ring_with k start)) h (event_of e)) more.1),
      (
        come_means (length start) (run_of h) (event_of e).seat (event_of e).op (run_open h) m.2,
        subst (λ (u : List Event). AllMayCome (length start) u (map event_of es)) (run_push h (event_of e)) more.2,
      ),
    )

pub events_fine : (version line rings k : ℕ) (start : List ℕ) (h : List Event) (es : List SavedEvent) → IsWell k start h →
    All (λ (e : Event). e.seat < seat_limit) (map event_of es) → IsLegal till (after till (first_state (ring_with k start)) h) (map event_of es) →
    AllMayCome (length start) (run_of h) (map event_of es) → first_fault (in_block version line rings (length start) k start h) (map EventLine es) ≡ None
events_fine version line rings k start h [] w seats legal may = refl
events_fine version line rings k start h (e ∷ es) w seats legal may =
    let a = after till (first_state (ring_with k start)) h in
    let fine : event_fault (length start) (run_of h) a (event_of e) ≡ None =
    event_fine (length start) (run_of h) a (event_of e) w.long (All-head (λ (e : Event). e.seat < seat_limit) (event_of e) (map event_of es) seats) legal.0
    (come_true (length start) (run_of h) (event_of e).seat (event_of e).op (run_open h) may.0) in
    let more : first_fault (in_block version (line + 1) rings (length start) k start (h ++ event_of e ∷ [])) (map EventLine es) ≡ None =
    events_fine version (line + 1) rings k start (h ++ event_of e ∷ []) es (well_push k start h (event_of e) w legal.0)
    (All-tail (λ (e : Event). e.seat < seat_limit) (event_of e) (map event_of es) seats)
    (subst (λ (x : State ℕ). IsLegal till x (map event_of es)) (sym (after-push till (first_state (ring_with k start)) h (event_of e))) legal.1)
    (subst (λ (u : List Event). AllMayCome (length start) u (map event_of es)) (sym (run_push h (event_of e))) may.1) in
    rw (fine, more) refl

-- The surveys of a block.

both_none : (x y : Bool) → cond {A = Option Kind} x (cond y None (Some SurveyKind)) (Some Range) ≡ None → (x ≡ true) × (y ≡ true)
both_none true true e = (refl, refl)
both_none true false e = absurd (cc)
both_none false y e = absurd (cc)

onward_means : (seat position : ℕ) (s : SavedSurvey) → is_onward seat position s ≡ true → (seat < s.seat) ⊎ ((seat ≡ s.seat) × (position ≤ s.position))
onward_means seat position s e = go (nat_lt seat s.seat) refl e
  where
    go : (x : Bool) → nat_lt seat s.seat ≡ x → (x || (eqb seat s.seat && nat_le position s.position)) ≡ true → (seat < s.seat) ⊎ ((seat ≡ s.seat) × (position ≤ s.position))
    go true p e = inl (below seat s.seat p)
    go false p e = let q = both (eqb seat s.seat) (nat_le position s.position) e in inr (same seat s.seat q.0, at_most position s.position q.1)

onward_true : (seat position : ℕ) (s : SavedSurvey) → (seat < s.seat) ⊎ ((seat ≡ s.seat) × (position ≤ s.position)) → is_onward seat position s ≡ true
onward_true seat position s (inl l) = rw (lt_true seat s.seat l) refl
onward_true seat position s (inr p) =
    or_second (nat_lt seat s.seat) (eqb seat s.seat && nat_le position s.position)
    (joined (eqb seat s.seat) (nat_le position s.position) (eq_true seat s.seat p.0) (le_true position s.position p.1))

survey_same : (s : SavedSurvey) (c f m r : ℕ) → s.privileged ≡ c → s.first ≡ f → s.calm ≡ m → s.rest ≡ r →
    survey_of s ≡ record { position = s.position; privileged = c; first = f; calm = m; rest = r }
survey_same s c f m r p q t u = rw (p, q, t, u) refl

same_survey_means : (s : SavedSurvey) (r : Survey) → r.position ≡ s.position → same_survey s r ≡ true → survey_of s ≡ r
same_survey_means s r at e =
    let p = both (eqb s.privileged r.privileged) (eqb s.first r.first && (eqb s.calm r.calm && eqb s.rest r.rest)) e in
    let q = both (eqb s.first r.first) (eqb s.calm r.calm && eqb s.rest r.rest) p.1 in
    let t = both (eqb s.calm r.calm) (eqb s.rest r.rest) q.1 in
    survey_same s r.privileged r.first r.calm r.rest (same _ _ p.0) (same _ _ q.0) (same _ _ t.0) (same _ _ t.1)
    ∙ ap (λ (x : ℕ). record { position = x; privileged = r.privileged; first = r.first; calm = r.calm; rest = r.rest }) (sym at)

same_survey_true : (s : SavedSurvey) (r : Survey) → survey_of s ≡ r → same_survey s r ≡ true
same_survey_true s r e =
    joined (eqb s.privileged r.privileged) _ (eq_true s.privileged r.privileged (ap (λ (x : Survey). x.privileged) e))
    (joined (eqb s.first r.first) _ (eq_true s.first r.first (ap (λ (x : Survey). x.first) e))
    (joined (eqb s.calm r.calm) (eqb s.rest r.rest) (eq_true s.calm r.calm (ap (λ (x : Survey). x.calm) e)) (eq_true s.rest r.rest (ap (λ (x : Survey). x.rest) e))))

pub surveys_mean : (version : ℕ) (b : Block) (line rings seat position : ℕ) (ss : List SavedSurvey) →
    first_fault (in_surveys version line rings b.k b.start (history b) seat position) (map SurveyLine ss) ≡ None → AreOnward seat position ss × All (IsRightSurvey b) ss
surveys_mean version b line rings seat position [] none = (tt, λ k d l. absurd (omega arith))
surveys_mean version b line rings seat position (s ∷ ss) none =
    let at = in_surveys version line rings b.k b.start (history b) seat position in
    let p = behind_none (fault at (SurveyLine s)) line (first_fault (in_surveys version (line + 1) rings b.k b.start (history b) s.seat s.position) (map SurveyLine ss)) none in
    let q = both_none (nat_lt s.seat seat_limit) (is_onward seat position s && is_surveyed at s) p.0 in
    let on = both (is_onward seat position s) (is_surveyed at s) q.1 in
    let place = both (nat_le s.position (length (history b))) (same_survey s (survey_at till (first_state (ring_with b.k b.start)) (history b) s.position) && eqb (left_after (take s.position (history b))) 0) on.1 in
    let said = both (same_survey s (survey_at till (first_state (ring_with b.k b.start)) (history b) s.position)) (eqb (left_after (take s.position (history b))) 0) place.1 in
    let within = at_most s.position (length (history b)) place.0 in
    let more = surveys_mean version b (line + 1) rings s.seat s.position ss p.1 in
    let right : IsRightSurvey b s = record {
      seat = below s.seat seat_limit q.0;
      right = (within, same_survey_means s (survey_at till (first_state (ring_with b.k b.start)) (history b) s.position) refl said.0, same (left_after (take s.position (history b))) 0 said.1);
    } in
    ((onward_means seat position s on.0, more.0), All-cons (IsRightSurvey b) s ss right more.1)

pub surveys_fine : (version : ℕ) (b : Block) (line rings seat position : ℕ) (ss : List SavedSurvey) → AreOnward seat position ss → All (IsRightSurvey b) ss →
    first_fault (in_surveys version line rings b.k b.start (history b) seat position) (map SurveyLine ss) ≡ None
surveys_fine version b line rings seat position [] order right = refl
surveys_fine version b line rings seat position (s ∷ ss) order right =
    let at = in_surveys version line rings b.k b.start (history b) seat position in
    let here : IsRightSurvey b s = All-head (IsRightSurvey b) s ss right in
    let said : is_surveyed at s ≡ true =
    joined (nat_le s.position (length (history b))) _ (le_true s.position (length (history b)) here.right.0)
    (joined (same_survey s (survey_at till (first_state (ring_with b.k b.start)) (history b) s.position)) (eqb (left_after (take s.position (history b))) 0)
    (same_survey_true s (survey_at till (first_state (ring_with b.k b.start)) (history b) s.position) here.right.1)
    (eq_true (left_after (take s.position (history b))) 0 here.right.2)) in
    let all : (is_onward seat position s && is_surveyed at s) ≡ true = joined (is_onward seat position s) (is_surveyed at s) (onward_true seat position s order.0) said in
    let seats : nat_lt s.seat seat_limit ≡ true = lt_true s.seat seat_limit here.seat in
    let fine : fault at (SurveyLine s) ≡ None =
    ap (λ (x : Bool). cond {A = Option Kind} x (cond (is_onward seat position s && is_surveyed at s) None (Some SurveyKind)) (Some Range)) seats
    ∙ ap (λ (x : Bool). cond {A = Option Kind} x None (Some SurveyKind)) all in
    let more = surveys_fine version b (line + 1) rings s.seat s.position ss order.1 (All-tail (IsRightSurvey b) s ss right) in
    ap (λ (x : Option Kind). or_behind x line (first_fault (in_surveys version (line + 1) rings b.k b.start (history b) s.seat s.position) (map SurveyLine ss))) fine ∙ more

from_order : (ss : List SavedSurvey) → AreInOrder ss → AreOnward 0 0 ss
from_order [] h = tt
from_order (s ∷ ss) h = (elim (cases_lt 0 s.seat) [ inl l ↦ inl l | inr l ↦ inr (omega arith, omega arith) ], h)

pub to_order : (ss : List SavedSurvey) → AreOnward 0 0 ss → AreInOrder ss
to_order [] h = tt
to_order (s ∷ ss) h = h.1

-- A block.

clash : (f : Option (ℕ × Kind)) (bad : ℕ × Kind) → f ≡ Some bad → f ≡ None → ⊥
clash f bad p q = cc

all_below_true : (k : ℕ) (s : List ℕ) → All (λ v. v < k) s → list_all (λ v. nat_lt v k) s ≡ true
all_below_true k [] h = refl
all_below_true k (v ∷ s) h =
    joined (nat_lt v k) (list_all (λ v. nat_lt v k) s) (lt_true v k (All-head (λ (v : ℕ). v < k) v s h)) (all_below_true k s (All-tail (λ (v : ℕ). v < k) v s h))

below_means : (k : ℕ) (s : List ℕ) → list_all (λ v. nat_lt v k) s ≡ true → All (λ v. v < k) s
below_means k [] h = λ i d l. absurd (omega arith)
below_means k (v ∷ s) h = let p = both (nat_lt v k) (list_all (λ v. nat_lt v k) s) h in All-cons (λ (v : ℕ). v < k) v s (below v k p.0) (below_means k s p.1)

pub block_means : (b : Before) (r : Block) → length r.start ≡ r.n → first_fault b (block_lines r) ≡ None → IsRightBlock b.version b.rings r
block_means b r n none =
    let par : are_parameters b.version r.n r.k ≡ true = true_of (are_parameters b.version r.n r.k) (λ f. clash (first_fault b (block_lines r)) (b.line + 1, Parameter) (head_bad b r f) none) in
    let index : eqb r.index b.rings ≡ true = true_of (eqb r.index b.rings) (λ f. clash (first_fault b (block_lines r)) (b.line + 1, Count) (index_bad b r par f) none) in
    let values : list_all (λ v. nat_lt v r.k) r.start ≡ true =
    true_of (list_all (λ v. nat_lt v r.k) r.start) (λ f. clash (first_fault b (block_lines r)) (b.line + 2, Range) (start_bad b r par index f) none) in
    let parts = sym (block_parts b r b.line b.rings refl refl par (same r.index b.rings index) values n) ∙ none in
    let p = else_none (first_fault (in_block b.version (b.line + 2) (b.rings + 1) (length r.start) r.k r.start []) (map EventLine r.events)) _ parts in
    let q = behind_none (end_fault r.events_said (history r)) _ _ p.1 in
    let end = end_means r.events_said (history r) q.0 in
    let limits = parameters_mean b.version r.n r.k par in
    let well : IsWell r.k r.start [] = record { ring = ring_of b.version r.n r.k r.start par values n; long = refl } in
    let events = events_mean b.version (b.line + 2) (b.rings + 1) r.k r.start [] r.events well p.0 in
    let surveys = surveys_mean b.version r (b.line + 3 + length r.events) (b.rings + 1) 0 0 r.surveys q.1 in
    record {
      index = same r.index b.rings index;
      two = limits.0;
      enough = limits.2;
      most_machines = limits.1;
      most = limits.3;
      below = below_means r.k r.start values;
      seats = events.0;
      legal_and_whole = (events.1, (whole_by_events (length r.start) (history r)).1 events.2 end.1);
      events_said = end.0 ∙ length-map r.events event_of;
      surveys = surveys.1;
      order = to_order r.surveys surveys.0;
    }

pub block_fine : (b : Before) (r : Block) → length r.start ≡ r.n → IsRightBlock b.version b.rings r → first_fault b (block_lines r) ≡ None
block_fine b r n h =
    let par = parameters_true b.version r.n r.k h.two h.most_machines h.enough h.most in
    let values = all_below_true r.k r.start h.below in
    let well : IsWell r.k r.start [] = record { ring = ring_of b.version r.n r.k r.start par values n; long = refl } in
    let whole = (whole_by_events (length r.start) (history r)).0 h.legal_and_whole.1 in
    let events = events_fine b.version (b.line + 2) (b.rings + 1) r.k r.start [] r.events well h.seats h.legal_and_whole.0 whole.0 in
    let surveys = surveys_fine b.version r (b.line + 3 + length r.events) (b.rings + 1) 0 0 r.surveys (from_order r.surveys h.order) h.surveys in
    let said = end_fine r.events_said (history r) (h.events_said ∙ sym (length-map r.events event_of)) whole.1 in
    block_parts b r b.line b.rings refl refl par h.index values n ∙ rw (events, said, surveys) refl

-- All blocks.

pub blocks_mean : (b : Before) (bs : List Block) → All (λ (r : Block). length r.start ≡ r.n) bs → first_fault b (flat_map block_lines bs) ≡ None → AreRightBlocks b.version b.rings bs
blocks_mean b [] whole none = tt
blocks_mean b (r ∷ bs) whole none =
    let p = else_none (first_fault b (block_lines r)) (first_fault (after_lines b (block_lines r)) (flat_map block_lines bs)) (sym (fault_append b (block_lines r) (flat_map block_lines bs)) ∙ none) in (
      block_means b r (All-head (λ (r : Block). length r.start ≡ r.n) r bs whole) p.0,
      subst (λ (x : ℕ). AreRightBlocks b.version x bs) (block_leaves b r).1
          (subst (λ (v : ℕ). AreRightBlocks v (after_lines b (block_lines r)).rings bs) (version_kept b (block_lines r))
          (blocks_mean (after_lines b (block_lines r)) bs (All-tail (λ (r : Block). length r.start ≡ r.n) r bs whole) p.1)),
    )

pub blocks_fine : (b : Before) (bs : List Block) → All (λ (r : Block). length r.start ≡ r.n) bs → AreRightBlocks b.version b.rings bs → first_fault b (flat_map block_lines bs) ≡ None
blocks_fine b [] whole h = refl
blocks_fine b (r ∷ bs) whole h =
    let here = block_fine b r (All-head (λ (r : Block). length r.start ≡ r.n) r bs whole) h.0 in
    let behind : AreRightBlocks (after_lines b (block_lines r)).version (after_lines b (block_lines r)).rings bs =
    subst (λ (v : ℕ). AreRightBlocks v (after_lines b (block_lines r)).rings bs) (sym (version_kept b (block_lines r)))
    (subst (λ (x : ℕ). AreRightBlocks b.version x bs) (sym (block_leaves b r).1) h.1) in
    let more = blocks_fine (after_lines b (block_lines r)) bs (All-tail (λ (r : Block). length r.start ≡ r.n) r bs whole) behind in
    fault_append b (block_lines r) (flat_map block_lines bs) ∙ ap (λ (u : Option (ℕ × Kind)). or_else u (first_fault (after_lines b (block_lines r)) (flat_map block_lines bs))) here ∙ more

pub legal_means : LegalMeans
legal_means s whole = (
  (λ g.
      let p = else_none (first_fault (nothing s.version) (flat_map block_lines s.rings)) _ (sym (text_parts s) ∙ none_good (nothing s.version) (lines s) g) in
      let q = behind_none (cond (eqb s.rings_said (length s.rings)) None (Some Count)) _ _ p.1 in
      record { blocks = blocks_mean (nothing s.version) s.rings whole p.0; rings_said = same s.rings_said (length s.rings) (count_none (eqb s.rings_said (length s.rings)) q.0) }),
  (λ h.
      let blocks = blocks_fine (nothing s.version) s.rings whole h.blocks in
      let said = eq_true s.rings_said (length s.rings) h.rings_said in
      good_none (nothing s.version) (lines s) (text_parts s ∙ rw (blocks, said) refl)),
)

-- each start that was read has n values: the type keeps it
pub whole_of : (rs : List SavedRing) → All (λ (b : Block). length b.start ≡ b.n) (map block_of rs)
whole_of [] = λ k d l. absurd (omega arith)
whole_of (r ∷ rs) =
    let n : length r.start.items ≡ r.n = omega (arith, r.has_n, r.start.ok.0) in
    All-cons (λ (b : Block). length b.start ≡ b.n) (block_of r) (map block_of rs) n (whole_of rs)
