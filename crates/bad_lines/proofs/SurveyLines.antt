-- The surveys of a ring, one after the other.
use Rattle.std.proofs.Common.{◌≡◌, ℕ, zero, suc, ◌+◌, ◌-◌, ◌<◌, ◌≤◌, List, [], ◌∷◌, ◌++◌, length, take, drop, get_or, map, Bool, true, false, cond, refl, sym, ◌∙◌, ap, subst, arith, eqb, append_assoc, append-nil, length-take}
use Rattle.std.specs.Prelude.{◌&&◌, nat_lt, nat_le, Option, None, Some}
use Rattle.std.proofs.lemmas.List.{drop_more, take-append-drop, map-append, take_all, take-map, length-map}
use Rattle.ring_model.specs.Limits.{seat_limit}
use Rattle.ring_model.specs.declared.events.Event.{Event}
use Rattle.ring_model.specs.declared.events.Survey.{Survey}
use Rattle.ring_model.specs.Ring.{Ring}
use Rattle.ring_model.specs.History.{State, after, next}
use Rattle.ring_model.specs.Groups.{left_after}
use Rattle.ring_model.specs.Resources.{till}
use Rattle.ring_model.specs.Surveys.{calm, survey_from, survey_at}
use Rattle.saved_history.specs.declared.saved.SavedEvent.{SavedEvent}
use Rattle.saved_history.specs.declared.saved.SavedSurvey.{SavedSurvey}
use Rattle.ring_check.specs.declared.answers.Kind.{Kind}
use Rattle.ring_check.specs.declared.answers.Kind.TheVariants.{Range, Survey as SurveyKind}
use Rattle.ring_check.specs.Lines.{Line, SurveyLine}
use Rattle.ring_check.specs.Meaning.{survey_of}
use Rattle.ring_check.specs.Table.{Before, event_of, first_state, in_range, same_survey, is_onward}
use Rattle.ring_check.proofs.Booleans.{joined, at_most}
use Rattle.bad_lines.specs.declared.replay.Replay.{Replay}
use Rattle.bad_lines.specs.declared.surveys.Mark.{Mark}
use Rattle.bad_lines.specs.declared.wrongs.Bad.{Bad}
use Rattle.bad_lines.specs.declared.wrongs.BadLine.{BadLine}
use Rattle.bad_lines.specs.declared.wrongs.Wrong.{Wrong}
use Rattle.bad_lines.specs.declared.wrongs.Wrong.TheVariants.{Limit, Early, Inside, Surveyed}
use Rattle.bad_lines.specs.BadLines.{Known, known, bad_of, bad, told, told_of, mended, after_known, after_all, bad_among}
use Rattle.bad_lines.specs.Replays.{own_all, state_of, Stands, AreCallable, IsMark, marked}
use Rattle.bad_lines.specs.Wrongs.{is_in_place, survey_wrong}
use Rattle.bad_lines.proofs.Firsts.{told_known}
use Rattle.bad_lines.proofs.Owns.{own_after, own_length, own_take, own_left}
use Rattle.bad_lines.proofs.Walks.{among_more, all_more}
use Rattle.bad_lines.proofs.EventLines.{next_long, callable_at, Follows, stands_more, push_events}

-- a call of the history at the place of a replay
after_long : (a : State ℕ) (es : List Event) → length (after till a es).ring.values ≡ length a.ring.values
after_long a [] = refl
after_long a (e ∷ es) = after_long (next till a e.op) es ∙ next_long a e.op

pub call_at : (start : Ring) (es : List SavedEvent) (i : ℕ) (d : SavedEvent) (r : Replay) → i < length es → AreCallable (length start.values) (first_state start) (map event_of es) →
    Stands start (map event_of (take i es)) r → in_range (length r.state.values) r.state.k (event_of (get_or es i d)) ≡ true
call_at start es i d r lt c s =
    let e = event_of (get_or es i d) in
    let cut : es ≡ take i es ++ get_or es i d ∷ drop (i + 1) es = sym (take-append-drop i es) ∙ ap (λ (u : List SavedEvent). take i es ++ u) (drop_more es i d lt) in
    let parts : map event_of es ≡ map event_of (take i es) ++ e ∷ map event_of (drop (i + 1) es) =
    ap (λ (u : List SavedEvent). map event_of u) cut ∙ map-append event_of (take i es) (get_or es i d ∷ drop (i + 1) es) in
    let here = callable_at (length start.values) (first_state start) (map event_of (take i es)) e (map event_of (drop (i + 1) es))
    (subst (λ (u : List Event). AreCallable (length start.values) (first_state start) u) parts c) in
    let long : length r.state.values ≡ length start.values = sym (ap (λ (x : State ℕ). length x.ring.values) s.state) ∙ after_long (first_state start) (map event_of (take i es)) in
    ap (λ (m : ℕ). in_range m r.state.k e) long
    ∙ ap (λ (x : State ℕ). in_range (length start.values) x.ring.k e) (sym s.state)
    ∙ here

-- the fault of a survey by the tests of its place and of what it says
place_found : (s o l rest : Bool) (a b c w : Wrong) (found : Bad) →
    Some found ≡ cond s (cond o (cond l None (Some (record { kind = SurveyKind; wrong = a }))) (Some (record { kind = SurveyKind; wrong = b }))) (Some (record { kind = Range; wrong = c })) →
    (Some found ≡ bad_of (cond s (cond (o && (l && rest)) None (Some SurveyKind)) (Some Range)) (cond s (cond o (cond l w a) b) c)) × ((s && (o && l)) ≡ false)
place_found true true true rest a b c w found e = absurd (cc)
place_found true true false rest a b c w found e = (e, refl)
place_found true false l rest a b c w found e = (e, refl)
place_found false o l rest a b c w found e = (e, refl)

place_none : (s o l : Bool) (a b c : Bad) → None ≡ cond s (cond o (cond l None (Some a)) (Some b)) (Some c) → (s ≡ true) × (o ≡ true) × (l ≡ true)
place_none true true true a b c e = (refl, refl, refl)
place_none true true false a b c e = absurd (cc)
place_none true false l a b c e = absurd (cc)
place_none false o l a b c e = absurd (cc)

answer_found : (rest : Bool) (w : Wrong) → bad_of (cond rest None (Some SurveyKind)) w ≡ cond rest None (Some (record { kind = SurveyKind; wrong = w }))
answer_found true w = refl
answer_found false w = refl

module _ (start : Ring) (es : List SavedEvent) (n : ℕ) (long : n ≡ length es) (version line rings seat position : ℕ) (s : SavedSurvey) where
  abbrev pub at : Before
  at = marked version line rings start es seat position

  -- what a replay at the survey's place says
  abbrev pub own_survey : Survey
  own_survey = survey_at till (first_state start) (own_all (first_state start) (map event_of es)) s.position

  abbrev pub PlaceFault : Option Bad → Type 0
  PlaceFault found =
      found ≡ cond (nat_lt s.seat seat_limit) (cond (is_onward seat position s) (cond (nat_le s.position (n)) None
      (Some (record { kind = SurveyKind; wrong = Limit s.position (n + 1) }))) (Some (record { kind = SurveyKind; wrong = Early s.seat s.position seat position })))
      (Some (record { kind = Range; wrong = Limit s.seat seat_limit }))

  many : length (own_all (first_state start) (map event_of es)) ≡ n
  many = own_length (first_state start) (map event_of es) ∙ length-map es event_of ∙ sym long

  -- as the fault of a survey is defined
  said : Bool
  said = same_survey s own_survey && eqb (left_after (take s.position (own_all (first_state start) (map event_of es)))) 0

  meant : Wrong
  meant = cond (eqb (left_after (take s.position (own_all (first_state start) (map event_of es)))) 0) (Surveyed (survey_of s) own_survey) (Inside s.position)

  bad_is : bad at (SurveyLine s) ≡ bad_of (cond (nat_lt s.seat seat_limit) (cond (is_onward seat position s && (nat_le s.position (n) && said)) None (Some SurveyKind)) (Some Range))
      (cond (nat_lt s.seat seat_limit) (cond (is_onward seat position s) (cond (nat_le s.position (n)) meant (Limit s.position (n + 1))) (Early s.seat s.position seat position)) (Limit s.seat seat_limit))
  unfolding said meant many
  bad_is = ap (λ (m : ℕ). bad_of (cond (nat_lt s.seat seat_limit) (cond (is_onward seat position s && (nat_le s.position m && said)) None (Some SurveyKind)) (Some Range))
      (cond (nat_lt s.seat seat_limit) (cond (is_onward seat position s) (cond (nat_le s.position m) meant (Limit s.position (m + 1))) (Early s.seat s.position seat position)) (Limit s.seat seat_limit))) many

  pub out_of_place : (found : Bad) → PlaceFault (Some found) → (Some found ≡ bad at (SurveyLine s)) × (mended at (SurveyLine s) ≡ marked version (line + 1) rings start es seat position)
  unfolding bad_is many
  out_of_place found f =
      let p = place_found (nat_lt s.seat seat_limit) (is_onward seat position s) (nat_le s.position (n)) said _ _ _ meant found f in
      let place : is_in_place at s ≡ false = ap (λ (m : ℕ). nat_lt s.seat seat_limit && (is_onward seat position s && nat_le s.position m)) many ∙ p.1 in
      (p.0 ∙ sym bad_is, rw place refl)

  pub in_place : PlaceFault None → (s.position ≤ n) × (mended at (SurveyLine s) ≡ marked version (line + 1) rings start es s.seat s.position)
  unfolding many
  in_place f =
      let p = place_none (nat_lt s.seat seat_limit) (is_onward seat position s) (nat_le s.position (n)) _ _ _ f in
      let place : is_in_place at s ≡ true =
      ap (λ (m : ℕ). nat_lt s.seat seat_limit && (is_onward seat position s && nat_le s.position m)) many
      ∙ joined (nat_lt s.seat seat_limit) _ p.0 (joined (is_onward seat position s) _ p.1 p.2) in
      (at_most s.position (n) p.2, rw place refl)

  pub answered : (r : Replay) (left : ℕ) (should : Survey) (found : Option Bad) → PlaceFault None → Stands start (map event_of (take s.position es)) r → left ≡ left_after (take s.position (map event_of es)) →
      should ≡ survey_from r.state s.position r.calm →
      found ≡ cond (same_survey s should && eqb left 0) None
      (Some (record { kind = SurveyKind; wrong = cond (eqb left 0) (Surveyed (survey_of s) should) (Inside s.position) })) →
      found ≡ bad at (SurveyLine s)
  unfolding bad_is said meant
  answered r left should found f st l o e =
      let p = place_none (nat_lt s.seat seat_limit) (is_onward seat position s) (nat_le s.position (n)) _ _ _ f in
      let front : take s.position (own_all (first_state start) (map event_of es)) ≡ own_all (first_state start) (map event_of (take s.position es)) =
      own_take s.position (first_state start) (map event_of es) ∙ ap (λ (u : List Event). own_all (first_state start) u) (take-map event_of s.position es) in
      let lefts : left ≡ left_after (take s.position (own_all (first_state start) (map event_of es))) =
      l ∙ ap (λ (u : List Event). left_after u) (take-map event_of s.position es) ∙ sym (own_left (first_state start) (map event_of (take s.position es))) ∙ ap (λ (u : List Event). left_after u) (sym front) in
      let state : after till (first_state start) (take s.position (own_all (first_state start) (map event_of es))) ≡ state_of r =
      ap (λ (u : List Event). after till (first_state start) u) front ∙ own_after (first_state start) (map event_of (take s.position es)) ∙ st.state in
      let calms : calm (take s.position (own_all (first_state start) (map event_of es))) ≡ r.calm = ap (λ (u : List Event). calm u) front ∙ st.calm in
      let survey : survey_from r.state s.position r.calm ≡ own_survey =
      ap (λ (x : State ℕ). survey_from x.ring s.position r.calm) (sym state)
      ∙ ap (λ (c : ℕ). survey_from (after till (first_state start) (take s.position (own_all (first_state start) (map event_of es)))).ring s.position c) (sym calms) in
      let g : Survey → ℕ → Option Bad = λ v q. cond (same_survey s v && eqb q 0) None (Some (record { kind = SurveyKind; wrong = cond (eqb q 0) (Surveyed (survey_of s) v) (Inside s.position) })) in
      let h : Bool → Bool → Bool → Option Bad = λ x y z. bad_of (cond x (cond (y && (z && said)) None (Some SurveyKind)) (Some Range))
      (cond x (cond y (cond z meant (Limit s.position (n + 1))) (Early s.seat s.position seat position)) (Limit s.seat seat_limit)) in
      e ∙ ap (λ (v : Survey). g v left) (o ∙ survey) ∙ ap (λ (q : ℕ). g own_survey q) lefts
      ∙ sym (answer_found said meant)
      ∙ ap (λ (x : Bool). h x true true) (sym p.0)
      ∙ ap (λ (y : Bool). h (nat_lt s.seat seat_limit) y true) (sym p.1)
      ∙ ap (λ (z : Bool). h (nat_lt s.seat seat_limit) (is_onward seat position s) z) (sym p.2)
      ∙ sym bad_is

-- the bad lines among the first i surveys are reported, and the mark is at the last one that was in its place
pub record AreSurveyed (line : ℕ) (start : Ring) (es : List SavedEvent) (ss : List SavedSurvey) (old : List BadLine) (i : ℕ) (m : Mark) (out : List BadLine) : Type 0 where
  pub mark : IsMark start es m
  pub told : (version rings : ℕ) → out ≡ old ++ bad_among (known (marked version line rings start es 0 0)) (map SurveyLine (take i ss))
  pub here : (version rings : ℕ) → after_all (known (marked version line rings start es 0 0)) (map SurveyLine (take i ss)) ≡ known (marked version (line + i) rings start es m.seat m.position)

pub survey_first : (line : ℕ) (start : Ring) (es : List SavedEvent) (ss : List SavedSurvey) (old : List BadLine) (m : Mark) → m.seat ≡ 0 → m.position ≡ 0 → Stands start [] m.replay →
    AreSurveyed line start es ss old 0 m old
survey_first line start es ss old m s p r =
    let n : line ≡ line + 0 = omega arith in
    record {
      mark = record { within = omega arith; stands = subst (λ (x : ℕ). Stands start (map event_of (take x es)) m.replay) (sym p) r };
      told = λ version rings. sym (append-nil old);
      here = λ version rings. ap (λ (x : ℕ). known (marked version x rings start es 0 0)) n
          ∙ ap (λ (x : ℕ). known (marked version (line + 0) rings start es x 0)) (sym s)
          ∙ ap (λ (x : ℕ). known (marked version (line + 0) rings start es m.seat x)) (sym p);
    }

pub survey_next : (line : ℕ) (start : Ring) (es : List SavedEvent) (ss : List SavedSurvey) (old : List BadLine) (i : ℕ) (d : SavedSurvey) → i < length ss → (m t : Mark) (out new : List BadLine) (found : Option Bad) →
    AreSurveyed line start es ss old i m out → IsMark start es t →
    ((version line rings : ℕ) → found ≡ bad (marked version line rings start es m.seat m.position) (SurveyLine (get_or ss i d))) →
    ((version line rings : ℕ) → mended (marked version line rings start es m.seat m.position) (SurveyLine (get_or ss i d)) ≡ marked version (line + 1) rings start es t.seat t.position) →
    new ≡ out ++ told (line + i) found → AreSurveyed line start es ss old (i + 1) t new
survey_next line start es ss old i d lt m t out new found so_far mark f n e =
    let k : ℕ → ℕ → Known = λ version rings. known (marked version line rings start es 0 0) in
    let one : (version rings : ℕ) → told_of (after_all (k version rings) (map SurveyLine (take i ss))) (SurveyLine (get_or ss i d)) ≡ told (line + i) found =
    λ version rings.
    ap (λ (x : Known). told_of x (SurveyLine (get_or ss i d))) (so_far.here version rings)
    ∙ told_known (marked version (line + i) rings start es m.seat m.position) (SurveyLine (get_or ss i d))
    ∙ ap (λ (x : Option Bad). told (line + i) x) (sym (f version (line + i) rings)) in
    let p : line + i + 1 ≡ line + (i + 1) = omega arith in
    record {
      mark = mark;
      told = λ version rings.
          e ∙ ap (λ (u : List BadLine). u ++ told (line + i) found) (so_far.told version rings)
          ∙ append_assoc old (bad_among (k version rings) (map SurveyLine (take i ss))) (told (line + i) found)
          ∙ ap (λ (u : List BadLine). old ++ u)
          (ap (λ (u : List BadLine). bad_among (k version rings) (map SurveyLine (take i ss)) ++ u) (sym (one version rings))
          ∙ sym (among_more SurveyLine (k version rings) ss i d lt));
      here = λ version rings.
          all_more SurveyLine (k version rings) ss i d lt
          ∙ ap (λ (x : Known). after_known x (SurveyLine (get_or ss i d))) (so_far.here version rings)
          ∙ ap (λ (b : Before). known b) (n version (line + i) rings)
          ∙ ap (λ (x : ℕ). known (marked version x rings start es t.seat t.position)) p;
    }

pub surveys_all : (line : ℕ) (start : Ring) (es : List SavedEvent) (ss : List SavedSurvey) (old : List BadLine) (i : ℕ) (m : Mark) (out : List BadLine) → length ss ≤ i →
    AreSurveyed line start es ss old i m out → (version rings : ℕ) → out ≡ old ++ bad_among (known (marked version line rings start es 0 0)) (map SurveyLine ss)
surveys_all line start es ss old i m out l t version rings =
    t.told version rings ∙ ap (λ (u : List SavedSurvey). old ++ bad_among (known (marked version line rings start es 0 0)) (map SurveyLine u)) (take_all i ss l)

-- the counts of a replay at a place
pub room_at : (start : Ring) (es : List SavedEvent) (i : ℕ) (r : Replay) → Stands start (map event_of (take i es)) r → (r.grants ≤ i) × (r.calm ≤ i)
room_at start es i r s =
    let n : length (map event_of (take i es)) ≡ length (take i es) = length-map (take i es) event_of in
    let m = length-take i es in
    let few = s.grants in
    let short = s.short in
    (omega arith, omega arith)

pub stands_next : (start : Ring) (es : List SavedEvent) (i : ℕ) (d : SavedEvent) (r t : Replay) → i < length es → Stands start (map event_of (take i es)) r → Follows r (event_of (get_or es i d)) t →
    Stands start (map event_of (take (i + 1) es)) t
stands_next start es i d r t lt s f =
    subst (λ (u : List Event). Stands start u t) (sym (push_events es i d lt)) (stands_more start (map event_of (take i es)) r t (event_of (get_or es i d)) s f)
