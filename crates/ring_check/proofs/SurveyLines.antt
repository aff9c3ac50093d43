-- A block's survey lines, one after the other.
use Rattle.std.proofs.Common.{nat_lt, ◌≡◌, ℕ, ◌+◌, ◌<◌, ◌≤◌, List, length, take, get_or, map, Bool, true, false, Some, None, refl, sym, ◌∙◌, ap, subst, arith, eqb, ◌&&◌}
use Rattle.std.specs.Prelude.{nat_le}
use Rattle.std.proofs.lemmas.List.{length-map, take_all}
use Rattle.ring_model.specs.Ring.{ring_with}
use Rattle.ring_model.specs.Limits.{seat_limit}
use Rattle.ring_model.specs.declared.events.Event.{Event}
use Rattle.ring_model.specs.declared.events.Survey.{Survey}
use Rattle.ring_model.specs.Resources.{till}
use Rattle.ring_model.specs.Surveys.{survey_at}
use Rattle.ring_model.specs.Groups.{left_after}
use Rattle.saved_history.specs.declared.saved.SavedEvent.{SavedEvent}
use Rattle.saved_history.specs.declared.saved.SavedSurvey.{SavedSurvey}
use Rattle.ring_check.specs.declared.answers.Kind.{Kind}
use Rattle.ring_check.specs.declared.answers.Kind.TheVariants.{Range, Survey as SurveyKind}
use Rattle.ring_check.specs.declared.surveys.Reading.{Reading}
use Rattle.ring_check.specs.Lines.{SurveyLine}
use Rattle.ring_check.specs.Table.{Before, event_of, first_state, fault, after_lines, is_onward, is_surveyed, same_survey}
use Rattle.ring_check.specs.Scan.{first_fault, in_block}
use Rattle.ring_check.specs.Replays.{IsReading}
use Rattle.ring_check.proofs.Booleans.{joined, and_left, and_right, lt_true, lt_false, le_true, le_false}
use Rattle.ring_check.proofs.Replaying.{survey_is}
use Rattle.ring_check.proofs.Walk.{walk_bad, walk_good, walk_on}

-- among the surveys, after the one of this seat and position
abbrev pub in_surveys : ℕ → ℕ → ℕ → ℕ → List ℕ → List Event → ℕ → ℕ → Before
in_surveys version line rings k start h seat position = record { version = version; line = line; rings = rings; n = length start; k = k; start = start; events = h; seat = seat; position = position }

-- a survey that means none
abbrev pub blank : SavedSurvey
blank = record { seat = 0; position = 0; privileged = 0; first = 0; calm = 0; rest = 0 }

-- the fault of a survey line, and that it has none
pub seat_bad : (b : Before) (s : SavedSurvey) → seat_limit ≤ s.seat → fault b (SurveyLine s) ≡ Some Range
seat_bad b s l = let e : nat_lt s.seat seat_limit ≡ false = lt_false s.seat seat_limit l in rw e refl

survey_bad : (b : Before) (s : SavedSurvey) → s.seat < seat_limit → (is_onward b.seat b.position s && is_surveyed b s) ≡ false → fault b (SurveyLine s) ≡ Some SurveyKind
survey_bad b s l e = let t : nat_lt s.seat seat_limit ≡ true = lt_true s.seat seat_limit l in rw (t, e) refl

pub place_bad : (b : Before) (s : SavedSurvey) → s.seat < seat_limit → length b.events < s.position → fault b (SurveyLine s) ≡ Some SurveyKind
place_bad b s l w =
    let e : nat_le s.position (length b.events) ≡ false = le_false s.position (length b.events) w in
    survey_bad b s l (and_right (is_onward b.seat b.position s) (is_surveyed b s) (and_left (nat_le s.position (length b.events)) _ e))

pub back_bad : (b : Before) (s : SavedSurvey) → s.seat < seat_limit → is_onward b.seat b.position s ≡ false → fault b (SurveyLine s) ≡ Some SurveyKind
back_bad b s l w = survey_bad b s l (and_left (is_onward b.seat b.position s) (is_surveyed b s) w)

pub answer_bad : (b : Before) (s : SavedSurvey) → s.seat < seat_limit → is_surveyed b s ≡ false → fault b (SurveyLine s) ≡ Some SurveyKind
answer_bad b s l w = survey_bad b s l (and_right (is_onward b.seat b.position s) (is_surveyed b s) w)

pub survey_fine : (b : Before) (s : SavedSurvey) → s.seat < seat_limit → is_onward b.seat b.position s ≡ true → is_surveyed b s ≡ true → fault b (SurveyLine s) ≡ None
survey_fine b s l w v =
    let t : nat_lt s.seat seat_limit ≡ true = lt_true s.seat seat_limit l in
    let e : (is_onward b.seat b.position s && is_surveyed b s) ≡ true = joined (is_onward b.seat b.position s) (is_surveyed b s) w v in
    rw (t, e) refl

-- a survey line is right where it says what a reading at its position says
pub surveyed_by : (version line rings k : ℕ) (start : List ℕ) (es : List SavedEvent) (seat position : ℕ) (s : SavedSurvey) (t : Reading) (said : Bool) →
    IsReading (ring_with k start) es t → t.survey.position ≡ s.position → said ≡ (same_survey s t.survey && eqb (left_after (take s.position (map event_of es))) 0) →
    is_surveyed (in_surveys version line rings k start (map event_of es) seat position) s ≡ said
surveyed_by version line rings k start es seat position s t said r at e =
    let n : length (map event_of es) ≡ length es = length-map es event_of in
    let w = r.within in
    let i : nat_le s.position (length (map event_of es)) ≡ true = le_true s.position (length (map event_of es)) (omega arith) in
    let here : survey_at till (first_state (ring_with k start)) (map event_of es) s.position ≡ t.survey =
    ap (λ (x : ℕ). survey_at till (first_state (ring_with k start)) (map event_of es) x) (sym at) ∙ survey_is k start es t.survey.position t.replay r.stands ∙ sym r.right in
    rw i (ap (λ (x : Survey). same_survey s x && eqb (left_after (take s.position (map event_of es))) 0) here ∙ sym e)

-- the first i surveys have no fault, and a reading is at the last of them
pub record AreRight (line k : ℕ) (start : List ℕ) (es : List SavedEvent) (ss : List SavedSurvey) (i seat position : ℕ) (r : Reading) : Type 0 where
  pub reading : IsReading (ring_with k start) es r
  pub same_k : r.replay.k ≡ k
  pub none : (version rings : ℕ) → first_fault (in_block version line rings (length start) k start (map event_of es)) (map SurveyLine (take i ss)) ≡ None
  pub here : (version rings : ℕ) → after_lines (in_block version line rings (length start) k start (map event_of es)) (map SurveyLine (take i ss))
      ≡ in_surveys version (line + i) rings k start (map event_of es) seat position

module _ (line k : ℕ) (start : List ℕ) (es : List SavedEvent) (ss : List SavedSurvey) (i seat position : ℕ) (d : SavedSurvey) (lt : i < length ss) (r : Reading)
    (good : AreRight line k start es ss i seat position r) where
  pub surveys_bad : (kind : Kind) → ((version rings : ℕ) → fault (in_surveys version (line + i) rings k start (map event_of es) seat position) (SurveyLine (get_or ss i d)) ≡ Some kind) → (version rings : ℕ) →
      first_fault (in_block version line rings (length start) k start (map event_of es)) (map SurveyLine ss) ≡ Some (line + i + 1, kind)
  surveys_bad kind h version rings =
      walk_bad SurveyLine (in_block version line rings (length start) k start (map event_of es)) ss i d lt (in_surveys version (line + i) rings k start (map event_of es) seat position)
      (good.none version rings) (good.here version rings) kind (h version rings)

  pub surveys_good : (t : Reading) → ((version rings : ℕ) → fault (in_surveys version (line + i) rings k start (map event_of es) seat position) (SurveyLine (get_or ss i d)) ≡ None) →
      IsReading (ring_with k start) es t → AreRight line k start es ss (i + 1) (get_or ss i d).seat (get_or ss i d).position t
  surveys_good t h reading =
      let at : ℕ → ℕ → Before = λ version rings. in_surveys version (line + i) rings k start (map event_of es) seat position in
      let b : ℕ → ℕ → Before = λ version rings. in_block version line rings (length start) k start (map event_of es) in
      let n : line + i + 1 ≡ line + (i + 1) = omega arith in
      record {
        reading = reading;
        same_k = reading.stands.stands.same_k;
        none = λ version rings. walk_good SurveyLine (b version rings) ss i d lt (at version rings) (good.none version rings) (good.here version rings) (h version rings);
        here = λ version rings. walk_on SurveyLine (b version rings) ss i d lt (at version rings) (good.none version rings) (good.here version rings)
            ∙ ap (λ (x : ℕ). in_surveys version x rings k start (map event_of es) (get_or ss i d).seat (get_or ss i d).position) n;
      }

pub surveys_end : (line k : ℕ) (start : List ℕ) (es : List SavedEvent) (ss : List SavedSurvey) (i seat position : ℕ) (r : Reading) → length ss ≤ i →
    AreRight line k start es ss i seat position r → (version rings : ℕ) → first_fault (in_block version line rings (length start) k start (map event_of es)) (map SurveyLine ss) ≡ None
surveys_end line k start es ss i seat position r l good version rings =
    subst (λ (u : List SavedSurvey). first_fault (in_block version line rings (length start) k start (map event_of es)) (map SurveyLine u) ≡ None) (take_all i ss l) (good.none version rings)

-- a reading of a ring with this K
pub reading_of : (j k : ℕ) (start : List ℕ) (es : List SavedEvent) (r : Reading) → j ≡ k → IsReading (ring_with j start) es r → IsReading (ring_with k start) es r
reading_of j k start es r e h = subst (λ (x : ℕ). IsReading (ring_with x start) es r) e h
