-- What is kept of a journal is recovered as the rings were after some line.
use Rattle.std.proofs.Common.{◌≡◌, ℕ, ◌+◌, ◌^◌, ◌<◌, ◌≤◌, Bool, true, false, cond, eqb, Option, List, [], ◌∷◌, ◌++◌, length, take, drop, map, refl, sym, ap, subst, ◌∙◌, ◌⊎◌, inl, inr, arith, append_assoc, length-append}
use Rattle.std.specs.Prelude.{codes, ◌||◌, None, Some, is_some}
use Rattle.std.specs.Fmt.{decimal}
use Rattle.std.specs.List.{AllByRecursion, flat_map}
use Rattle.std.proofs.lemmas.Bool.{false≢true, cases_lt}
use Rattle.std.proofs.lemmas.List.{append-nil, append_cancel_left, take-append-le, take-append-drop}
use Rattle.std.proofs.lemmas.List.Folds.{list_any-append}
use Rattle.std.proofs.lemmas.Grind.{flat_map-append}
use Rattle.std.proofs.Math.Seq.{take-append_seam}
use Rattle.disks.specs.Held.{Held}
use Rattle.line_service.specs.Stands.{Stand, stand}
use Rattle.text_lines.specs.Spelling.{spaced, ended}
use Rattle.saved_history.specs.declared.saved.SavedEvent.{SavedEvent}
use Rattle.saved_history.specs.declared.saved.SavedEvent.TheVariants.{Granted, Refused, Member, Corrupted}
use Rattle.saved_history.specs.declared.saved.SavedSurvey.{SavedSurvey}
use Rattle.saved_history.specs.Versions.{latest_version}
use Rattle.saved_history.specs.Content.{Content}
use Rattle.saved_history.specs.Spelling.{event_line, survey_line, Fits}
use Rattle.ring_model.specs.declared.events.Event.{Event}
use Rattle.one_thread_ring.specs.Journals.{line_of_event, event_lines}
use Rattle.journal.specs.declared.calls.Call.{Call}
use Rattle.journal.specs.declared.calls.Call.TheVariants as call
use Rattle.journal.specs.declared.calls.JournalLine.{JournalLine}
use Rattle.journal.specs.Spelling.{Journal, JournalLineFits, call_line, journal_line, journal_head, journal_text}
use Rattle.journal.specs.Reading.{BeginsNone}
use Rattle.journal.specs.ContentAfter.{are_open, with_calls, in_order, content_after}
use Rattle.journal.specs.Recovery.{has_line_end, IsRecovered}
use Rattle.journal.proofs.LineEnds.{cut_line}
use Rattle.ring_service.specs.declared.answers.Refusal.{Refusal}
use Rattle.ring_service.specs.Permits.{Terms}
use Rattle.ring_service.specs.Standings.{Standing}
use Rattle.ring_service.specs.Saved.{IsRight, blocks_from, content_of}
use Rattle.ring_service.specs.Turns.{RingTrace, events, surveyed, Turn}
use Rattle.ring_service.specs.Notes.{note, notes_of}
use Rattle.ring_service.specs.Recording.{calls_of}
use Rattle.ring_service.specs.Serving.{IsTurnOn, IsAnswered, Answers}
use Rattle.ring_service.specs.Recovered.{IsPrefix, HaveGrown, IsReached, AnswersAreRecovered}
use Rattle.ring_service.proofs.Effects.{EffectAmong, turn_effect}
use Rattle.ring_service.proofs.Legality.{content_legal, as_many}
use Rattle.ring_service.proofs.Journaling.{CloseAt, Stands, turned, front_open, whole_front, turn_stands, stands_tell, begins}
use Rattle.ring_service.proofs.RecordedFits.{all_then, turn_fits}
use Rattle.ring_service.proofs.Grown.{answers_grown, calls_in, have_same}

-- ---- each line of a call ends

or_true : (a : Bool) → (a || true) ≡ true
or_true true = refl
or_true false = refl

end_after : (xs ys : List ℕ) → has_line_end ys ≡ true → has_line_end (xs ++ ys) ≡ true
end_after xs ys e = list_any-append (λ b. eqb b 10) xs ys ∙ (ap (λ (b : Bool). has_line_end xs || b) e ∙ or_true (has_line_end xs))

end_before : (xs ys : List ℕ) → has_line_end xs ≡ true → has_line_end (xs ++ ys) ≡ true
end_before xs ys e = list_any-append (λ b. eqb b 10) xs ys ∙ ap (λ (b : Bool). b || has_line_end ys) e

-- an LF is among these bytes
record HasEnd (line : List ℕ) : Type 0 where
  pub has : has_line_end line ≡ true

behind : (xs ys : List ℕ) → HasEnd ys → HasEnd (xs ++ ys)
behind xs ys e = record { has = end_after xs ys e.has }

ended_ends : (n : ℕ) → HasEnd (ended n)
ended_ends n = record { has = end_after (decimal n) (10 ∷ []) refl }

event_ends : (e : SavedEvent) → HasEnd (event_line e)
event_ends (Granted s m o n r) = behind (codes "p ") _ (behind (spaced s) _ (behind (spaced m) _ (behind (spaced o) _ (behind (codes "g ") _ (behind (spaced n) _ (ended_ends r))))))
event_ends (Refused s m o) = behind (codes "p ") _ (behind (spaced s) _ (behind (spaced m) _ (behind (spaced o) (codes "n\n") (record { has = refl }))))
event_ends (Member s m o l n r) = behind (codes "m ") _ (behind (spaced s) _ (behind (spaced m) _ (behind (spaced o) _ (behind (spaced l) _ (behind (spaced n) _ (ended_ends r))))))
event_ends (Corrupted s m v o) = behind (codes "c ") _ (behind (spaced s) _ (behind (spaced m) _ (behind (spaced v) _ (ended_ends o))))

survey_ends : (v : SavedSurvey) → HasEnd (survey_line v)
survey_ends v = behind (codes "s ") _ (behind (spaced v.seat) _ (behind (spaced v.position) _ (behind (spaced v.privileged) _ (behind (spaced v.first) _ (behind (spaced v.calm) _ (ended_ends v.rest))))))

call_ends : (c : Call) → HasEnd (call_line c)
call_ends (call.Event e) = event_ends e
call_ends (call.Survey v) = survey_ends v

-- so none is at the front of bytes in which none ends
no_line : (version rings : ℕ) (tail : List ℕ) → has_line_end tail ≡ false → BeginsNone (JournalLineFits version rings) journal_line tail
no_line version rings tail none r more f e =
    let ended : has_line_end (journal_line r ++ more) ≡ true = end_before (journal_line r) more (behind (spaced r.ring) (call_line r.call) (call_ends r.call)).has in
    false≢true (sym none ∙ (ap has_line_end e ∙ ended))

-- ---- notes as lines of calls

abbrev pub lines_of : List JournalLine → List ℕ
lines_of calls = flat_map journal_line calls

pub events_are : (ring : ℕ) (es : List Event) → event_lines ring es ≡ lines_of (map (line_of_event ring) es)
events_are ring [] = refl
events_are ring (e ∷ es) = ap (λ (x : List ℕ). journal_line (line_of_event ring e) ++ x) (events_are ring es)

note_is : (record_ : RingTrace) → note record_ ≡ lines_of (calls_of record_)
note_is (events ring es) = events_are ring es
note_is (surveyed ring seat s) = sym (append-nil (note (surveyed ring seat s)))

notes_are : (records : List RingTrace) → notes_of records ≡ lines_of (flat_map calls_of records)
notes_are [] = refl
notes_are (r ∷ records) =
    ap (λ (x : List ℕ). x ++ notes_of records) (note_is r)
    ∙ (ap (λ (x : List ℕ). lines_of (calls_of r) ++ x) (notes_are records) ∙ sym (flat_map-append journal_line (calls_of r) (flat_map calls_of records)))

noted_is : (terms : Terms) (turn : Turn (List Standing)) (noted : List ℕ) → is_some terms.journal ≡ true → noted ≡ cond (is_some terms.journal) (notes_of turn.recorded) [] → noted ≡ lines_of (turned turn)
noted_is terms turn noted noting e = e ∙ (ap (λ (b : Bool). cond b (notes_of turn.recorded) []) noting ∙ notes_are turn.recorded)

-- ---- the calls at the front of bytes that lack the end of the last

pub split : (bytes more head rest : List ℕ) → bytes ++ more ≡ head ++ rest → length head ≤ length bytes → bytes ≡ head ++ drop (length head) bytes
split bytes more head rest e le =
    sym (take-append-drop (length head) bytes)
    ∙ ap (λ (u : List ℕ). u ++ drop (length head) bytes) (sym (take-append-le (length head) bytes more le) ∙ (ap (take (length head)) e ∙ take-append_seam head rest))

-- what follows the head in bytes that have it all
pub after_head : (bytes more head rest : List ℕ) → bytes ++ more ≡ head ++ rest → (le : length head ≤ length bytes) → drop (length head) bytes ++ more ≡ rest
after_head bytes more head rest e le =
    append_cancel_left head (drop (length head) bytes ++ more) rest
    (sym (append_assoc head (drop (length head) bytes) more) ∙ (ap (λ (u : List ℕ). u ++ more) (sym (split bytes more head rest e le)) ∙ e))

pub record IsCut (calls : List JournalLine) (bytes : List ℕ) : Type 0 where
  pub front : List JournalLine
  pub next : JournalLine
  pub back : List JournalLine
  pub tail : List ℕ
  pub parts : calls ≡ front ++ next ∷ back
  pub is : bytes ≡ lines_of front ++ tail
  pub none : has_line_end tail ≡ false

pub cut_calls : (version rings : ℕ) (calls : List JournalLine) (bytes more others : List ℕ) → AllByRecursion (JournalLineFits version rings) calls → bytes ++ more ≡ lines_of calls ++ others → length bytes < length (lines_of calls) → IsCut calls bytes
cut_calls version rings [] bytes more others f e short = absurd (omega (arith, short))
cut_calls version rings (r ∷ rs) bytes more others f e short = elim (cases_lt (length bytes) (length (journal_line r))) [
  | inl lt ↦
      let within : bytes ++ more ≡ journal_line r ++ (lines_of rs ++ others) = e ∙ append_assoc (journal_line r) (lines_of rs) others in
      record { front = []; next = r; back = rs; tail = bytes; parts = refl; is = refl; none = cut_line version rings r bytes more (lines_of rs ++ others) f.0 within lt }
  | inr le ↦
      let within : bytes ++ more ≡ journal_line r ++ (lines_of rs ++ others) = e ∙ append_assoc (journal_line r) (lines_of rs) others in
      let rest : List ℕ = drop (length (journal_line r)) bytes in
      let is : bytes ≡ journal_line r ++ rest = split bytes more (journal_line r) (lines_of rs ++ others) within le in
      let long : length bytes ≡ length (journal_line r) + length rest = ap (λ (u : List ℕ). length u) is ∙ length-append (journal_line r) rest in
      let all : length (lines_of (r ∷ rs)) ≡ length (journal_line r) + length (lines_of rs) = length-append (journal_line r) (lines_of rs) in
      let c = cut_calls version rings rs rest more others f.1 (after_head bytes more (journal_line r) (lines_of rs ++ others) within le) (omega (arith, short, long, all)) in
      record {
        front = r ∷ c.front;
        next = c.next;
        back = c.back;
        tail = c.tail;
        parts = ap (λ (x : List JournalLine). r ∷ x) c.parts;
        is = is ∙ (ap (λ (u : List ℕ). journal_line r ++ u) c.is ∙ sym (append_assoc (journal_line r) (lines_of c.front) c.tail));
        none = c.none;
      }
]

-- ---- how far bytes reach in the notes of lines

pub all_front : {A : Type 0} (P : A → Type 0) (xs ys : List A) → AllByRecursion P (xs ++ ys) → AllByRecursion P xs
all_front P [] ys f = tt
all_front P (x ∷ xs) ys f = (f.0, all_front P xs ys f.1)

-- the effect of a turn on these terms, and what it records
effect_on : (refusing : Option Refusal) (faults : Bool) (rings : List Standing) (line : List ℕ) (turn : Turn (List Standing)) → AllByRecursion IsRight rings → IsTurnOn refusing faults rings line turn → EffectAmong rings turn
effect_on None faults rings line turn all t = turn_effect faults rings line turn all t
effect_on (Some why) faults rings line turn all e = subst (λ (t : Turn (List Standing)). EffectAmong rings t) (sym e) (inl (refl, refl))

fits_on : (refusing : Option Refusal) (faults : Bool) (rings : List Standing) (line : List ℕ) (turn : Turn (List Standing)) → AllByRecursion IsRight rings → length rings < 2 ^ 32 → IsTurnOn refusing faults rings line turn →
    AllByRecursion (JournalLineFits latest_version (length rings)) (turned turn)
fits_on None faults rings line turn all few t = turn_fits rings all few faults line turn t
fits_on (Some why) faults rings line turn all few e = subst (λ (t : Turn (List Standing)). AllByRecursion (JournalLineFits latest_version (length rings)) (turned t)) (sym e) tt

-- those of a line that was answered
answered_effect : (terms : Terms) (old new : List Standing) (was is : Option Held) (line said noted : List ℕ) → AllByRecursion IsRight old → (a : IsAnswered terms old was line said noted new is) → EffectAmong old a.turn
answered_effect terms old new was is line said noted all a = effect_on terms.refusing terms.faults old line a.turn all a.of_line

answered_fits : (terms : Terms) (old new : List Standing) (was is : Option Held) (line said noted : List ℕ) → AllByRecursion IsRight old → length old < 2 ^ 32 → (a : IsAnswered terms old was line said noted new is) → AllByRecursion (JournalLineFits latest_version (length old)) (turned a.turn)
answered_fits terms old new was is line said noted all few a = fits_on terms.refusing terms.faults old line a.turn all few a.of_line

-- the calls of lines, all of them, after calls that record the rings
pub record AllTurned (old : List Standing) (done : List JournalLine) (new : List Standing) (noted : List ℕ) : Type 0 where
  pub calls : List JournalLine
  pub stands : Stands old (done ++ calls) new
  pub fit : AllByRecursion (JournalLineFits latest_version (length old)) calls
  pub is : noted ≡ lines_of calls

pub none_turned : (old : List Standing) (done : List JournalLine) (now : List Standing) → Stands old done now → AllTurned old done now []
none_turned old done now s = record {
  calls = [];
  stands = subst (λ (x : List JournalLine). Stands old x now) (sym (append-nil done)) s;
  fit = tt;
  is = refl;
}

pub turned_then : {old mid new : List Standing} {done : List JournalLine} {noted notes : List ℕ} (t : AllTurned old done mid noted) → AllTurned old (done ++ t.calls) new notes → AllTurned old done new (noted ++ notes)
turned_then {old} {mid} {new} {done} {noted} {notes} t r = record {
  calls = t.calls ++ r.calls;
  stands = subst (λ (x : List JournalLine). Stands old x new) (append_assoc done t.calls r.calls) r.stands;
  fit = all_then (JournalLineFits latest_version (length old)) t.calls r.calls t.fit r.fit;
  is = ap (λ (u : List ℕ). u ++ notes) t.is ∙ (ap (λ (u : List ℕ). lines_of t.calls ++ u) r.is ∙ sym (flat_map-append journal_line t.calls r.calls));
}

module _ (terms : Terms) (noting : is_some terms.journal ≡ true) (old : List Standing) (few : length old < 2 ^ 32) where
  abbrev Fit : List JournalLine → Type 0
  Fit calls = AllByRecursion (JournalLineFits latest_version (length old)) calls

  -- the turn of one line, after calls that record the rings
  record Turned (done : List JournalLine) (now mid : List Standing) (note_ : List ℕ) : Type 0 where
    pub calls : List JournalLine
    pub stands : Stands old (done ++ calls) mid
    pub close : (calls ≡ []) ⊎ CloseAt calls
    pub fit : Fit calls
    pub is : note_ ≡ lines_of calls

  one_turned : (done : List JournalLine) (now mid : List Standing) (was is : Option Held) (line said noted : List ℕ) → Stands old done now → IsAnswered terms now was line said noted mid is → Turned done now mid noted
  one_turned done now mid was is line said noted s a =
      let one = turn_stands old done now s a.turn (answered_effect terms now mid was is line said noted s.right a) in
      let many : length now ≡ length old = s.many in
      let small : length now < 2 ^ 32 = omega (arith, few, many) in
      record {
        calls = turned a.turn;
        stands = subst (λ (x : List Standing). Stands old (done ++ turned a.turn) x) a.leaves one.0;
        close = one.1;
        fit = subst (λ (n : ℕ). AllByRecursion (JournalLineFits latest_version n) (turned a.turn)) many (answered_fits terms now mid was is line said noted s.right small a);
        is = noted_is terms a.turn noted noting a.notes;
      }

  -- The calls of the whole lines among them, those of the next line that it has, which are open, and a tail in which none ends.
  record Reaches (done : List JournalLine) (now new : List Standing) (was : Option Held) (bytes : List ℕ) : Type 0 where
    pub calls : List JournalLine
    pub open_calls : List JournalLine
    pub tail : List ℕ
    pub rings : List Standing
    pub lines : List (List ℕ)
    pub reached : IsReached terms now was lines rings
    pub stands : Stands old (done ++ calls) rings
    pub opens : are_open open_calls ≡ true
    pub fit : Fit (calls ++ open_calls)
    pub is : bytes ≡ lines_of (calls ++ open_calls) ++ tail
    pub none : has_line_end tail ≡ false
    pub grown : HaveGrown rings new

  none_reached : (now : List Standing) (was : Option Held) → IsReached terms now was [] now
  none_reached now was = ([], [], was, (refl, refl, refl))

  -- it ends before this turn is over
  within_turn : (done : List JournalLine) (now mid new : List Standing) (was : Option Held) (noted bytes more others : List ℕ) → Stands old done now → Turned done now mid noted → HaveGrown now new → bytes ++ more ≡ noted ++ others → length bytes < length noted →
      Reaches done now new was bytes
  within_turn done now mid new was noted bytes more others s t g e short =
      let long : length noted ≡ length (lines_of t.calls) = ap (λ (u : List ℕ). length u) t.is in
      let c = cut_calls latest_version (length old) t.calls bytes more others t.fit (e ∙ ap (λ (u : List ℕ). u ++ others) t.is) (omega (arith, short, long)) in
      record {
        calls = [];
        open_calls = c.front;
        tail = c.tail;
        rings = now;
        lines = [];
        reached = none_reached now was;
        stands = subst (λ (x : List JournalLine). Stands old x now) (sym (append-nil done)) s;
        opens = opens c long t.close;
        fit = all_front (JournalLineFits latest_version (length old)) c.front (c.next ∷ c.back) (subst Fit c.parts t.fit);
        is = c.is;
        none = c.none;
        grown = g;
      }
    where
      opens : (c : IsCut t.calls bytes) → length noted ≡ length (lines_of t.calls) → (t.calls ≡ []) ⊎ CloseAt t.calls → are_open c.front ≡ true
      opens c long (inl none) =
          let empty : length (lines_of t.calls) ≡ 0 = ap (λ (x : List JournalLine). length (lines_of x)) none in
          absurd (omega (arith, short, long, empty))
      opens c long (inr close) = front_open c.front c.next c.back (subst CloseAt c.parts close)

  -- this turn's calls come first
  turn_then : (done : List JournalLine) (now mid new : List Standing) (was between : Option Held) (line said noted bytes rest : List ℕ) → IsAnswered terms now was line said noted mid between → (t : Turned done now mid noted) → bytes ≡ noted ++ rest → Reaches (done ++ t.calls) mid new between rest →
      Reaches done now new was bytes
  turn_then done now mid new was between line said noted bytes rest a t e r = record {
    calls = t.calls ++ r.calls;
    open_calls = r.open_calls;
    tail = r.tail;
    rings = r.rings;
    lines = line ∷ r.lines;
    reached = (said ++ r.reached.0, noted ++ r.reached.1, r.reached.2, (stand mid between, said, r.reached.0, noted, r.reached.1, a, refl, refl, r.reached.3));
    stands = subst (λ (x : List JournalLine). Stands old x r.rings) (append_assoc done t.calls r.calls) r.stands;
    opens = r.opens;
    fit = subst Fit (sym (append_assoc t.calls r.calls r.open_calls)) (all_then (JournalLineFits latest_version (length old)) t.calls (r.calls ++ r.open_calls) t.fit r.fit);
    is = e ∙ (ap (λ (u : List ℕ). u ++ rest) t.is ∙ (ap (λ (u : List ℕ). lines_of t.calls ++ u) r.is ∙ (sym (append_assoc (lines_of t.calls) (lines_of (r.calls ++ r.open_calls)) r.tail) ∙ ap (λ (u : List ℕ). u ++ r.tail) lines_both)));
    none = r.none;
    grown = r.grown;
  }
    where
      lines_both : lines_of t.calls ++ lines_of (r.calls ++ r.open_calls) ≡ lines_of ((t.calls ++ r.calls) ++ r.open_calls)
      lines_both = sym (flat_map-append journal_line t.calls (r.calls ++ r.open_calls)) ∙ ap (λ (x : List JournalLine). lines_of x) (sym (append_assoc t.calls r.calls r.open_calls))

  reaches : (done : List JournalLine) (now new : List Standing) (was is : Option Held) (lines : List (List ℕ)) (said noted bytes more : List ℕ) → Stands old done now → Answers terms now was lines said noted new is → bytes ++ more ≡ noted → Reaches done now new was bytes
  reaches done now new was is [] said noted bytes more s h e = record {
    calls = [];
    open_calls = [];
    tail = [];
    rings = now;
    lines = [];
    reached = none_reached now was;
    stands = subst (λ (x : List JournalLine). Stands old x now) (sym (append-nil done)) s;
    opens = refl;
    fit = tt;
    is = nothing bytes more (e ∙ h.1);
    none = refl;
    grown = subst (λ (x : Stand (List Standing)). HaveGrown now x.service) (sym h.2) (have_same now);
  }
    where
      nothing : (xs ys : List ℕ) → xs ++ ys ≡ [] → xs ≡ []
      nothing [] ys e = refl
      nothing (x ∷ xs) ys e = let long : length (x ∷ (xs ++ ys)) ≡ 0 = ap (λ (u : List ℕ). length u) e in absurd (omega (arith, long))
  reaches done now new was is (line ∷ lines) said noted bytes more s h e =
      let mid : List Standing = h.0.service in
      let between : Option Held = h.0.files in
      let t = one_turned done now mid was between line h.1 h.3 s h.5 in
      let parts : bytes ++ more ≡ h.3 ++ h.4 = e ∙ h.7 in
      elim (cases_lt (length bytes) (length h.3)) [
        | inl lt ↦ within_turn done now mid new was h.3 bytes more h.4 s t (answers_grown terms now new was is (line ∷ lines) said noted h) parts lt
        | inr le ↦
            let rest : List ℕ = drop (length h.3) bytes in
            turn_then done now mid new was between line h.1 h.3 bytes rest h.5 t (split bytes more h.3 h.4 parts le)
            (reaches (done ++ t.calls) mid new between is lines h.2 h.4 rest more t.stands h.8 (after_head bytes more h.3 h.4 parts le))
      ]

  pub all_turned : (done : List JournalLine) (now new : List Standing) (was is : Option Held) (lines : List (List ℕ)) (said noted : List ℕ) → Stands old done now → Answers terms now was lines said noted new is → AllTurned old done new noted
  all_turned done now new was is [] said noted s h = record {
    calls = [];
    stands = subst (λ (x : Stand (List Standing)). Stands old (done ++ []) x.service) (sym h.2) (subst (λ (x : List JournalLine). Stands old x now) (sym (append-nil done)) s);
    fit = tt;
    is = h.1;
  }
  all_turned done now new was is (line ∷ lines) said noted s h =
      let mid : List Standing = h.0.service in
      let between : Option Held = h.0.files in
      let t = one_turned done now mid was between line h.1 h.3 s h.5 in
      let r = all_turned (done ++ t.calls) mid new between is lines h.2 h.4 t.stands h.8 in
      record {
        calls = t.calls ++ r.calls;
        stands = subst (λ (x : List JournalLine). Stands old x new) (append_assoc done t.calls r.calls) r.stands;
        fit = all_then (JournalLineFits latest_version (length old)) t.calls r.calls t.fit r.fit;
        is = h.7 ∙ (ap (λ (u : List ℕ). u ++ h.4) t.is ∙ (ap (λ (u : List ℕ). lines_of t.calls ++ u) r.is ∙ sym (flat_map-append journal_line t.calls r.calls)));
      }

-- ---- the recovery

reached_then : (terms : Terms) (old mid new : List Standing) (was between is : Option Held) (lines more : List (List ℕ)) (said noted : List ℕ) → Answers terms old was lines said noted mid between → IsReached terms mid between more new → IsReached terms old was (lines ++ more) new
reached_then terms old mid new was between is [] more said noted h r =
    subst (λ (x : Stand (List Standing)). IsReached terms x.service x.files more new) h.2 r
reached_then terms old mid new was between is (line ∷ lines) more said noted h r =
    let on = reached_then terms h.0.service mid new h.0.files between is lines more h.2 h.4 h.8 r in
    (h.1 ++ on.0, h.3 ++ on.1, on.2, (h.0, h.1, on.0, h.3, on.1, h.5, refl, refl, on.3))

module _ (old rings : List Standing) (calls open_calls : List JournalLine) (tail : List ℕ) where
  abbrev begun : Content
  begun = content_of old

  abbrev kept_journal : Journal
  kept_journal = record { began = begun; calls = calls ++ open_calls }

  content_is : Stands old calls rings → are_open open_calls ≡ true → content_of rings ≡ content_after begun (calls ++ open_calls)
  content_is s o =
      let same : content_after begun (calls ++ open_calls) ≡ content_after begun calls =
      ap (λ (x : List JournalLine). let c : Content = record { version = latest_version; rings = map in_order (with_calls (blocks_from 0 old) x); rings_said = length old } in c) (whole_front calls open_calls o) in
      sym (same ∙ stands_tell old calls rings s)

  pub is_recovered : AllByRecursion IsRight old → Fits begun → Stands old calls rings → are_open open_calls ≡ true → AllByRecursion (JournalLineFits latest_version (length old)) (calls ++ open_calls) → has_line_end tail ≡ false →
      IsRecovered (journal_text kept_journal ++ tail) (content_of rings)
  is_recovered all fits s o fit none =
      let many : length old ≡ length (blocks_from 0 old) = sym (as_many 0 old) in
      record {
        journal = kept_journal;
        tail = tail;
        lines = record {
          fits = record { began = fits; calls = subst (λ (n : ℕ). AllByRecursion (JournalLineFits latest_version n) (calls ++ open_calls)) many fit };
          spelled = refl;
          behind = no_line latest_version (length (blocks_from 0 old)) tail none;
        };
        unended = none;
        began = content_legal old all;
        is = content_is s o;
        legal = content_legal rings s.right;
      }

-- the rings that are recovered, as they were after some more lines
pub record Rebuilt (terms : Terms) (mid new : List Standing) (between : Option Held) (kept : List ℕ) : Type 0 where
  pub rings : List Standing
  pub recovered : IsRecovered kept (content_of rings)
  pub lines : List (List ℕ)
  pub reached : IsReached terms mid between lines rings
  pub grown : HaveGrown rings new

pub rebuilt : (terms : Terms) → is_some terms.journal ≡ true → (old mid new : List Standing) (between is : Option Held) (untold : List (List ℕ)) (noted unsaid notes kept lost : List ℕ) → AllByRecursion IsRight old → Fits (content_of old) → AllTurned old [] mid noted →
    Answers terms mid between untold unsaid notes new is → kept ++ lost ≡ journal_head (content_of old) ++ (noted ++ notes) → IsPrefix (journal_head (content_of old) ++ noted) kept → Rebuilt terms mid new between kept
rebuilt terms noting old mid new between is untold noted unsaid notes kept lost all fits t k whole_ front =
    let few : length old < 2 ^ 32 = fits.rings_said in
    let head : List ℕ = journal_head (content_of old) in
    let extra : List ℕ = front.0 in
    let after : extra ++ lost ≡ notes = append_cancel_left (head ++ noted) (extra ++ lost) notes
    (sym (append_assoc (head ++ noted) extra lost) ∙ (ap (λ (u : List ℕ). u ++ lost) (sym front.1) ∙ (whole_ ∙ sym (append_assoc head noted notes)))) in
    let r = reaches terms noting old few t.calls mid new between is untold unsaid notes extra lost t.stands k after in
    let calls : List JournalLine = t.calls ++ r.calls in
    let fit : AllByRecursion (JournalLineFits latest_version (length old)) (calls ++ r.open_calls) =
    subst (λ (x : List JournalLine). AllByRecursion (JournalLineFits latest_version (length old)) x) (sym (append_assoc t.calls r.calls r.open_calls))
    (all_then (JournalLineFits latest_version (length old)) t.calls (r.calls ++ r.open_calls) t.fit r.fit) in
    let rest : List ℕ = lines_of (r.calls ++ r.open_calls) in
    let both : lines_of t.calls ++ rest ≡ lines_of (calls ++ r.open_calls) = sym (flat_map-append journal_line t.calls (r.calls ++ r.open_calls)) ∙ ap (λ (x : List JournalLine). lines_of x) (sym (append_assoc t.calls r.calls r.open_calls)) in
    let spelled : kept ≡ (head ++ lines_of (calls ++ r.open_calls)) ++ r.tail =
    front.1
    ∙ (ap (λ (u : List ℕ). (head ++ noted) ++ u) r.is
    ∙ (append_assoc head noted (rest ++ r.tail)
    ∙ (ap (λ (u : List ℕ). head ++ (u ++ (rest ++ r.tail))) t.is
    ∙ (ap (λ (u : List ℕ). head ++ u) (sym (append_assoc (lines_of t.calls) rest r.tail) ∙ ap (λ (u : List ℕ). u ++ r.tail) both)
    ∙ sym (append_assoc head (lines_of (calls ++ r.open_calls)) r.tail))))) in
    record {
      rings = r.rings;
      recovered = subst (λ (u : List ℕ). IsRecovered u (content_of r.rings)) (sym spelled) (is_recovered old r.rings calls r.open_calls r.tail all fits r.stands r.opens fit r.none);
      lines = r.lines;
      reached = r.reached;
      grown = r.grown;
    }

pub answers_are_recovered : AnswersAreRecovered
answers_are_recovered terms old mid new was between is told untold said noted unsaid notes kept lost noting all fits h k whole_ front =
    let t = all_turned terms noting old fits.rings_said [] old mid was between told said noted (begins old all) h in
    let r = rebuilt terms noting old mid new between is untold noted unsaid notes kept lost all fits t k whole_ front in
    record {
      rings = r.rings;
      recovered = r.recovered;
      calls = calls_in terms old mid r.rings was between told said noted h (answers_grown terms mid r.rings between r.reached.2 r.lines r.reached.0 r.reached.1 r.reached.3);
      more = r.lines;
      reached = reached_then terms old mid r.rings was between is told r.lines said noted h r.reached;
      grown = r.grown;
    }
