-- Surveys and logs that are right in the segments of a chain, shifted, are right in its history.
use Rattle.std.proofs.Common.{◌≡◌, ℕ, zero, suc, ◌+◌, ◌≤◌, ◌==◌, Bool, true, false, cond, List, [], ◌∷◌, ◌++◌, length, length-append, take, refl, sym, ◌∙◌, ap, subst, arith}
use Rattle.std.specs.Prelude.{map, Option, Some, None, slice_get}
use Rattle.std.proofs.lemmas.List.{append-nil, append_assoc, map-append, take-append-le, take-map}
use Rattle.std.proofs.lemmas.List.Elements.{filter-append}
use Rattle.std.proofs.Math.Seq.{take-append-add}
use Rattle.ring_model.specs.Ring.{Ring}
use Rattle.ring_model.specs.History.{Works, State, opening, after}
use Rattle.ring_model.specs.Resources.{till}
use Rattle.ring_model.specs.Surveys.{survey_from, calm}
use Rattle.ring_model.specs.Groups.{left_after}
use Rattle.ring_model.specs.Logs.{calls_of, receipts_of, IsSurvey, IsFollowed, Fits}
use Rattle.ring_model.specs.declared.events.Reply.{Reply}
use Rattle.ring_model.specs.declared.events.Reply.TheVariants.{Granted, NotPrivileged, Corrupted}
use Rattle.ring_model.specs.declared.events.Event.{Event}
use Rattle.ring_model.specs.declared.events.Survey.{Survey}
use Rattle.ring_model.specs.declared.events.Entry.{Entry}
use Rattle.ring_model.specs.declared.events.Entry.TheVariants as entry
use Rattle.ring_model.proofs.Histories.{after-append}
use Rattle.ring_model.proofs.Wholes.{left_append, whole_left}
use Rattle.ring_model.specs.declared.bases.Base.{Base}
use Rattle.ring_model.specs.Bases.{no_base, IsAmount, state_from, shifted_reply, shifted_event, shifted, is_quiet, shifted_calm, shifted_survey, shifted_entry}
use Rattle.ring_model.specs.Chains.{Segment, IsChainFrom, chain_history, AreLogs, chain_log, IsSurveyAfter, entry_after}
use Rattle.ring_model.specs.ChainLaws.{SurveysAreRight, SurveysFromStart, LogsFit, LogsFromStart}
use Rattle.ring_model.proofs.Shifts.{shifted_state, after_shifted, begins, left_shifted, length_shifted}
use Rattle.ring_model.proofs.ChainHistories.{chains_are_histories, calm_with, calm_with-append, calm_with-shifted, calm_with_none, calm_with_is, Stands, stands, chain_front, history_append}
use Rattle.ring_model.proofs.Tallied.{quiet_both}

-- the base of a segment counted from the first event of its chain

abbrev inner_base : List Segment → Segment → Base
inner_base front s = record { events = length (chain_history front); grants = s.base.grants; amount = s.base.amount; calm = calm (chain_history front) }

inner_reply : (front : List Segment) (s : Segment) (r : Reply) → shifted_reply (inner_base front s) r ≡ shifted_reply s.base r
inner_reply front s (Granted number result) = refl
inner_reply front s NotPrivileged = refl
inner_reply front s (Corrupted old) = refl

abbrev replied : Event → Reply → Event
replied e r = record { seat = e.seat; op = e.op; reply = r }

inner_event : (front : List Segment) (s : Segment) (e : Event) → shifted_event (inner_base front s) e ≡ shifted_event s.base e
inner_event front s e = ap (λ (x : Reply). replied e x) (inner_reply front s e.reply)

-- surveys

-- the first events of a segment, after the history of those before it
reached : (front : List Event) (b : Base) (h back : List Event) (p : ℕ) → p ≤ length h → take (length front + p) (front ++ (shifted b h ++ back)) ≡ front ++ shifted b (take p h)
reached front b h back p le =
    let size : length (shifted b h) ≡ length h = length_shifted b h in
    take-append-add front (shifted b h ++ back) p
    ∙ ap (λ (x : List Event). front ++ x) (take-append-le p (shifted b h) back (omega arith) ∙ take-map (λ (e : Event). shifted_event b e) p h)

abbrev inner_survey : List Segment → Segment → Survey → Survey
inner_survey front s v = shifted_survey (inner_base front s) (is_quiet (take v.position s.history)) v

survey_in : (b : Base) (r : Ring) (front : List Segment) (s : Segment) (back : List Event) (v : Survey) → Stands b r front s → left_after (chain_history front) ≡ 0 →
    IsSurvey till (opening s.start 0) s.history v → IsSurvey till (state_from b r) (chain_history front ++ (shifted s.base s.history ++ back)) (inner_survey front s v)
survey_in b r front s back v at closed i =
    let f : List Event = chain_history front in
    let d : Base = s.base in
    let h : List Event = s.history in
    let p : ℕ = v.position in
    let all : List Event = f ++ (shifted d h ++ back) in
    let size : length (shifted d h) ≡ length h = length_shifted d h in
    let both : length all ≡ length f + length (shifted d h ++ back) = length-append f (shifted d h ++ back) in
    let rest : length (shifted d h ++ back) ≡ length (shifted d h) + length back = length-append (shifted d h) back in
    let seen : take (length f + p) all ≡ f ++ shifted d (take p h) = reached f d h back p i.0 in
    let there : after till (state_from b r) (f ++ shifted d (take p h)) ≡ shifted_state d (after till (opening s.start 0) (take p h)) =
    after-append till (state_from b r) f (shifted d (take p h))
    ∙ ap (λ (x : State ℕ). after till x (shifted d (take p h))) (at.state ∙ sym (begins d s.start at.amount))
    ∙ after_shifted d (opening s.start 0) (take p h) in
    let same : (after till (opening s.start 0) (take p h)).ring ≡ (after till (state_from b r) (take (length f + p) all)).ring =
    sym (ap (λ (x : List Event). (after till (state_from b r) x).ring) seen ∙ ap (λ (x : State ℕ). x.ring) there) in
    let quiet : shifted_calm (inner_base front s) (is_quiet (take p h)) (calm (take p h)) ≡ calm (take (length f + p) all) =
    sym (calm_with_is (calm f) (take p h)) ∙ sym (calm_with-shifted d (calm f) (take p h))
    ∙ ap (λ (x : ℕ). calm_with x (shifted d (take p h))) (sym (calm_with_none f))
    ∙ sym (calm_with-append 0 f (shifted d (take p h))) ∙ calm_with_none (f ++ shifted d (take p h))
    ∙ ap (λ (x : List Event). calm x) (sym seen) in (
      omega (arith, i.0),
      ap (λ (x : Survey). shifted_survey (inner_base front s) (is_quiet (take p h)) x) i.1
          ∙ ap (λ (x : Ring). survey_from x (length f + p) (shifted_calm (inner_base front s) (is_quiet (take p h)) (calm (take p h)))) same
          ∙ ap (λ (x : ℕ). survey_from (after till (state_from b r) (take (length f + p) all)).ring (length f + p) x) quiet,
      ap (λ (x : List Event). left_after x) seen ∙ left_append f (shifted d (take p h)) closed (left_shifted d (take p h) ∙ i.2),
    )

-- two shifts are one

calm_twice : (p q : Bool) (k a c : ℕ) → cond (cond p q false) (k + cond q (a + c) c) (cond q (a + c) c) ≡ cond q (cond p (k + a) a + c) c
calm_twice true true k a c = omega arith
calm_twice true false k a c = refl
calm_twice false true k a c = refl
calm_twice false false k a c = refl

abbrev surveyed : Survey → ℕ → ℕ → Survey
surveyed v position c = record { position = position; privileged = v.privileged; first = v.first; calm = c; rest = v.rest }

survey_twice : (b : Base) (r : Ring) (front : List Segment) (s : Segment) (back : List Event) (v : Survey) → Stands b r front s → v.position ≤ length s.history →
    shifted_survey s.base (is_quiet (take v.position s.history)) v
    ≡ shifted_survey b (is_quiet (take (length (chain_history front) + v.position) (chain_history front ++ (shifted s.base s.history ++ back)))) (inner_survey front s v)
survey_twice b r front s back v at le =
    let f : List Event = chain_history front in
    let h : List Event = s.history in
    let all : List Event = f ++ (shifted s.base h ++ back) in
    let q : Bool = is_quiet (take v.position h) in
    let local : ℕ = shifted_calm (inner_base front s) q v.calm in
    let place : s.base.events + v.position ≡ b.events + (length f + v.position) = ap (λ (x : ℕ). x + v.position) at.events ∙ omega arith in
    let quiet : is_quiet (take (length f + v.position) all) ≡ cond (is_quiet f) q false =
    ap (λ (x : List Event). is_quiet x) (reached f s.base h back v.position le) ∙ quiet_both s.base f (take v.position h) in
    let calms : shifted_calm s.base q v.calm ≡ shifted_calm b (is_quiet (take (length f + v.position) all)) local =
    ap (λ (x : ℕ). cond q (x + v.calm) v.calm) (at.calm ∙ calm_with_is b.calm f)
    ∙ sym (calm_twice (is_quiet f) q b.calm (calm f) v.calm)
    ∙ ap (λ (x : Bool). shifted_calm b x local) (sym quiet) in
    ap (λ (x : ℕ). surveyed v x (shifted_calm s.base q v.calm)) place
    ∙ ap (λ (x : ℕ). surveyed v (b.events + (length f + v.position)) x) calms

closed_front : (b : Base) (r : Ring) (front back : List Segment) → IsAmount b.amount → IsChainFrom b r (front ++ back) → left_after (chain_history front) ≡ 0
closed_front b r front back le c = whole_left (length r.values) (chain_history front) (chains_are_histories b r front le (chain_front b r front back c)).1

pub surveys_are_right : SurveysAreRight
surveys_are_right b r front s back v le c i =
    let at : Stands b r front s = stands b r front s back le c in
    subst (λ (x : List Event). IsSurveyAfter b r x (shifted_survey s.base (is_quiet (take v.position s.history)) v)) (sym (history_append front (s ∷ back)))
    (inner_survey front s v, survey_in b r front s (chain_history back) v at (closed_front b r front (s ∷ back) le c) i, survey_twice b r front s (chain_history back) v at i.0)

calm_of_none : (q : Bool) (c : ℕ) → cond q (0 + c) c ≡ c
calm_of_none true c = omega arith
calm_of_none false c = refl

survey_of_none : (q : Bool) (v : Survey) → shifted_survey no_base q v ≡ v
survey_of_none q v =
    let place : 0 + v.position ≡ v.position = omega arith in
    ap (λ (x : ℕ). surveyed v x (shifted_calm no_base q v.calm)) place
    ∙ ap (λ (x : ℕ). surveyed v v.position x) (calm_of_none q v.calm)

pub surveys_from_start : SurveysFromStart
surveys_from_start r h v i =
    subst (λ (x : Survey). IsSurvey till (opening r 0) h x) (sym (i.2 ∙ survey_of_none (is_quiet (take i.0.position h)) i.0)) i.1

-- logs

receipts_append : (xs ys : List Entry) → receipts_of (xs ++ ys) ≡ receipts_of xs ++ receipts_of ys
receipts_append [] ys = refl
receipts_append (entry.Receipt r ∷ xs) ys = ap (λ (x : List Event). r.event ∷ x) (receipts_append xs ys)
receipts_append (entry.Survey v ∷ xs) ys = receipts_append xs ys

abbrev inner_entry : List Segment → Segment → Entry → Entry
inner_entry front s e = shifted_entry (inner_base front s) s.history e

abbrev inner_entries : List Segment → Segment → List Entry → List Entry
inner_entries front s log = map (λ (e : Entry). inner_entry front s e) log

receipts_shifted : (front : List Segment) (s : Segment) (log : List Entry) → receipts_of (inner_entries front s log) ≡ shifted s.base (receipts_of log)
receipts_shifted front s [] = refl
receipts_shifted front s (entry.Receipt r ∷ log) =
    ap (λ (x : Event). x ∷ receipts_of (inner_entries front s log)) (inner_event front s r.event)
    ∙ ap (λ (x : List Event). shifted_event s.base r.event ∷ x) (receipts_shifted front s log)
receipts_shifted front s (entry.Survey v ∷ log) = receipts_shifted front s log

calls_shifted : (b : Base) (seat : ℕ) (h : List Event) → calls_of seat (shifted b h) ≡ shifted b (calls_of seat h)
calls_shifted b seat [] = refl
calls_shifted b seat (e ∷ h) =
    elim (e.seat == seat) as (λ q. cond q (shifted_event b e ∷ calls_of seat (shifted b h)) (calls_of seat (shifted b h)) ≡ shifted b (cond q (e ∷ calls_of seat h) (calls_of seat h))) [
      | true ↦ ap (λ (x : List Event). shifted_event b e ∷ x) (calls_shifted b seat h)
      | false ↦ calls_shifted b seat h
    ]

-- the log of a chain, counted from the first event of the chain
abbrev inner_log : List Segment → List Segment → List (List Entry) → List Entry
inner_log front (s ∷ ss) (log ∷ logs) = inner_entries front s log ++ inner_log (front ++ s ∷ []) ss logs
inner_log front _ _ = []

logs_call : (seat : ℕ) (front ss : List Segment) (logs : List (List Entry)) → AreLogs seat ss logs → receipts_of (inner_log front ss logs) ≡ calls_of seat (chain_history ss)
logs_call seat front [] [] a = refl
logs_call seat front [] (log ∷ logs) a = refl
logs_call seat front (s ∷ ss) [] a = absurd a
logs_call seat front (s ∷ ss) (log ∷ logs) a =
    receipts_append (inner_entries front s log) (inner_log (front ++ s ∷ []) ss logs)
    ∙ ap (λ (x : List Event). x ++ receipts_of (inner_log (front ++ s ∷ []) ss logs)) (receipts_shifted front s log ∙ ap (λ (x : List Event). shifted s.base x) a.0.calls ∙ sym (calls_shifted s.base seat s.history))
    ∙ ap (λ (x : List Event). calls_of seat (shifted s.base s.history) ++ x) (logs_call seat (front ++ s ∷ []) ss logs a.1)
    ∙ sym (filter-append (λ (e : Event). e.seat == seat) (shifted s.base s.history) (chain_history ss))

earlier : {C : Type 0} (w : Works C) (a : State C) (h : List Event) (f g : ℕ) (log : List Entry) → f ≤ g → IsFollowed w a h g log → IsFollowed w a h f log
earlier w a h f g [] le i = tt
earlier w a h f g (entry.Receipt r ∷ log) le i = (omega (arith, i.0), i.1, i.2)
earlier w a h f g (entry.Survey v ∷ log) le i = (omega (arith, i.0), i.1, i.2)

got_within : (h : List Event) (p : ℕ) (e : Event) → slice_get h p ≡ Some e → p + 1 ≤ length h
got_within [] p e q = absurd (none_some e q)
  where
    is_none : Option Event → Type 0
    is_none None = Unit {0}
    is_none (Some e) = ⊥

    none_some : (e : Event) → None ≡ Some e → ⊥
    none_some e q = subst is_none q tt
got_within (d ∷ h) zero e q = omega arith
got_within (d ∷ h) (suc p) e q = omega (arith, got_within h p e q)

got_shifted : (b : Base) (h back : List Event) (p : ℕ) (e : Event) → slice_get h p ≡ Some e → slice_get (shifted b h ++ back) p ≡ Some (shifted_event b e)
got_shifted b [] back p e q = let l : p + 1 ≤ 0 = got_within [] p e q in absurd (omega arith)
got_shifted b (d ∷ h) back zero e q = ap (λ (x : Option Event). moved x) q
  where
    moved : Option Event → Option Event
    moved None = None
    moved (Some e) = Some (shifted_event b e)
got_shifted b (d ∷ h) back (suc p) e q = got_shifted b h back p e q

got_after : (front h : List Event) (p : ℕ) → slice_get (front ++ h) (length front + p) ≡ slice_get h p
got_after [] h p = ap (λ (i : ℕ). slice_get h i) (let z : 0 + p ≡ p = omega arith in z)
got_after (d ∷ front) h p = ap (λ (i : ℕ). slice_get (d ∷ (front ++ h)) i) (let z : length (d ∷ front) + p ≡ suc (length front + p) = omega arith in z) ∙ got_after front h p

follow_in : (b : Base) (r : Ring) (front : List Segment) (s : Segment) (back : List Event) (f : ℕ) (log more : List Entry) → Stands b r front s → left_after (chain_history front) ≡ 0 →
    f ≤ length s.history → IsFollowed till (opening s.start 0) s.history f log →
    IsFollowed till (state_from b r) (chain_history front ++ (shifted s.base s.history ++ back)) (length (chain_history front) + length s.history) more →
    IsFollowed till (state_from b r) (chain_history front ++ (shifted s.base s.history ++ back)) (length (chain_history front) + f) (inner_entries front s log ++ more)
follow_in b r front s back f [] more at closed le i m =
    earlier till (state_from b r) (chain_history front ++ (shifted s.base s.history ++ back)) (length (chain_history front) + f) (length (chain_history front) + length s.history) more (omega arith) m
follow_in b r front s back f (entry.Receipt v ∷ log) more at closed le i m =
    let within : v.position + 1 ≤ length s.history = got_within s.history v.position v.event i.1 in
    let next : length (chain_history front) + (v.position + 1) ≡ length (chain_history front) + v.position + 1 = omega arith in (
      omega (arith, i.0),
      got_after (chain_history front) (shifted s.base s.history ++ back) v.position
          ∙ got_shifted s.base s.history back v.position v.event i.1
          ∙ ap (λ (x : Event). Some x) (sym (inner_event front s v.event)),
      subst (λ (x : ℕ). IsFollowed till (state_from b r) (chain_history front ++ (shifted s.base s.history ++ back)) x (inner_entries front s log ++ more)) next
          (follow_in b r front s back (v.position + 1) log more at closed within i.2 m),
    )
follow_in b r front s back f (entry.Survey v ∷ log) more at closed le i m = (
  omega (arith, i.0),
  survey_in b r front s back v at closed i.1,
  follow_in b r front s back v.position log more at closed i.1.0 i.2 m,
)

-- a chain, its segment moved to the front
moved_front : (front : List Segment) (s : Segment) (ss : List Segment) → (front ++ s ∷ []) ++ ss ≡ front ++ s ∷ ss
moved_front front s ss = append_assoc front (s ∷ []) ss

pub front_size : (front : List Segment) (s : Segment) → length (chain_history (front ++ s ∷ [])) ≡ length (chain_history front) + length s.history
front_size front s =
    let one : chain_history (front ++ s ∷ []) ≡ chain_history front ++ (shifted s.base s.history ++ []) = history_append front (s ∷ []) in
    let none : length (shifted s.base s.history ++ []) ≡ length (shifted s.base s.history) = ap (λ (x : List Event). length x) (append-nil (shifted s.base s.history)) in
    let size : length (shifted s.base s.history) ≡ length s.history = length_shifted s.base s.history in
    let both : length (chain_history front ++ (shifted s.base s.history ++ [])) ≡ length (chain_history front) + length (shifted s.base s.history ++ []) = length-append (chain_history front) (shifted s.base s.history ++ []) in
    ap (λ (x : List Event). length x) one ∙ omega arith

-- the logs of the last segments, after those before them
follow_back : (b : Base) (r : Ring) (seat : ℕ) (front ss : List Segment) (logs : List (List Entry)) → IsAmount b.amount → IsChainFrom b r (front ++ ss) → AreLogs seat ss logs →
    IsFollowed till (state_from b r) (chain_history (front ++ ss)) (length (chain_history front)) (inner_log front ss logs)
follow_back b r seat front [] [] am c a = tt
follow_back b r seat front [] (log ∷ logs) am c a = tt
follow_back b r seat front (s ∷ ss) [] am c a = absurd a
follow_back b r seat front (s ∷ ss) (log ∷ logs) am c a =
    let at : Stands b r front s = stands b r front s ss am c in
    let c' : IsChainFrom b r ((front ++ s ∷ []) ++ ss) = subst (λ (x : List Segment). IsChainFrom b r x) (sym (moved_front front s ss)) c in
    let back : List Entry = inner_log (front ++ s ∷ []) ss logs in
    let more : IsFollowed till (state_from b r) (chain_history ((front ++ s ∷ []) ++ ss)) (length (chain_history (front ++ s ∷ []))) back = follow_back b r seat (front ++ s ∷ []) ss logs am c' a.1 in
    let text : chain_history (front ++ s ∷ ss) ≡ chain_history front ++ (shifted s.base s.history ++ chain_history ss) = history_append front (s ∷ ss) in
    let whole_is : chain_history ((front ++ s ∷ []) ++ ss) ≡ chain_history front ++ (shifted s.base s.history ++ chain_history ss) = ap (λ (x : List Segment). chain_history x) (moved_front front s ss) ∙ text in
    let m : IsFollowed till (state_from b r) (chain_history front ++ (shifted s.base s.history ++ chain_history ss)) (length (chain_history front) + length s.history) back =
    subst (λ (x : List Event). IsFollowed till (state_from b r) x (length (chain_history front) + length s.history) back) whole_is
    (subst (λ (x : ℕ). IsFollowed till (state_from b r) (chain_history ((front ++ s ∷ []) ++ ss)) x back) (front_size front s) more) in
    let start : length (chain_history front) + 0 ≡ length (chain_history front) = omega arith in
    subst (λ (x : List Event). IsFollowed till (state_from b r) x (length (chain_history front)) (inner_log front (s ∷ ss) (log ∷ logs))) (sym text)
    (subst (λ (x : ℕ). IsFollowed till (state_from b r) (chain_history front ++ (shifted s.base s.history ++ chain_history ss)) x (inner_log front (s ∷ ss) (log ∷ logs))) start
    (follow_in b r front s (chain_history ss) 0 log back at (closed_front b r front (s ∷ ss) am c) (omega arith) a.0.entries m))

-- the log of a chain is that one, its positions and calms shifted

abbrev entries_after : Base → List Event → List Entry → List Entry
entries_after b h log = map (λ (e : Entry). entry_after b h e) log

abbrev receipt_of : ℕ → Event → Entry
receipt_of position e = entry.Receipt (record { position = position; event = e })

entries_twice : (b : Base) (r : Ring) (front : List Segment) (s : Segment) (back : List Event) (f : ℕ) (log : List Entry) → Stands b r front s →
    IsFollowed till (opening s.start 0) s.history f log →
    map (λ (e : Entry). shifted_entry s.base s.history e) log ≡ entries_after b (chain_history front ++ (shifted s.base s.history ++ back)) (inner_entries front s log)
entries_twice b r front s back f [] at i = refl
entries_twice b r front s back f (entry.Receipt v ∷ log) at i =
    let all : List Event = chain_history front ++ (shifted s.base s.history ++ back) in
    let place : s.base.events + v.position ≡ b.events + (length (chain_history front) + v.position) = ap (λ (x : ℕ). x + v.position) at.events ∙ omega arith in
    ap (λ (x : ℕ). receipt_of x (shifted_event s.base v.event) ∷ map (λ (e : Entry). shifted_entry s.base s.history e) log) place
    ∙ ap (λ (x : Event). receipt_of (b.events + (length (chain_history front) + v.position)) x ∷ map (λ (e : Entry). shifted_entry s.base s.history e) log) (sym (inner_event front s v.event))
    ∙ ap (λ (x : List Entry). receipt_of (b.events + (length (chain_history front) + v.position)) (shifted_event (inner_base front s) v.event) ∷ x) (entries_twice b r front s back (v.position + 1) log at i.2)
entries_twice b r front s back f (entry.Survey v ∷ log) at i =
    let all : List Event = chain_history front ++ (shifted s.base s.history ++ back) in
    ap (λ (x : Survey). entry.Survey x ∷ map (λ (e : Entry). shifted_entry s.base s.history e) log) (survey_twice b r front s back v at i.1.0)
    ∙ ap (λ (x : List Entry). entry_after b all (inner_entry front s (entry.Survey v)) ∷ x) (entries_twice b r front s back v.position log at i.2)

log_twice : (b : Base) (r : Ring) (seat : ℕ) (front ss : List Segment) (logs : List (List Entry)) → IsAmount b.amount → IsChainFrom b r (front ++ ss) → AreLogs seat ss logs →
    chain_log ss logs ≡ entries_after b (chain_history (front ++ ss)) (inner_log front ss logs)
log_twice b r seat front [] [] am c a = refl
log_twice b r seat front [] (log ∷ logs) am c a = refl
log_twice b r seat front (s ∷ ss) [] am c a = absurd a
log_twice b r seat front (s ∷ ss) (log ∷ logs) am c a =
    let at : Stands b r front s = stands b r front s ss am c in
    let c' : IsChainFrom b r ((front ++ s ∷ []) ++ ss) = subst (λ (x : List Segment). IsChainFrom b r x) (sym (moved_front front s ss)) c in
    let back : List Entry = inner_log (front ++ s ∷ []) ss logs in
    let one : List Entry = inner_entries front s log in
    let text : chain_history (front ++ s ∷ ss) ≡ chain_history front ++ (shifted s.base s.history ++ chain_history ss) = history_append front (s ∷ ss) in
    ap (λ (x : List Entry). x ++ chain_log ss logs) (entries_twice b r front s (chain_history ss) 0 log at a.0.entries ∙ ap (λ (x : List Event). entries_after b x one) (sym text))
    ∙ ap (λ (x : List Entry). entries_after b (chain_history (front ++ s ∷ ss)) one ++ x)
    (log_twice b r seat (front ++ s ∷ []) ss logs am c' a.1 ∙ ap (λ (x : List Segment). entries_after b (chain_history x) back) (moved_front front s ss))
    ∙ sym (map-append (λ (e : Entry). entry_after b (chain_history (front ++ s ∷ ss)) e) one back)

pub logs_fit : LogsFit
logs_fit b r ss seat logs am c a = (
  inner_log [] ss logs,
  record { calls = logs_call seat [] ss logs a; entries = follow_back b r seat [] ss logs am c a },
  log_twice b r seat [] ss logs am c a,
)

entries_of_none : (h : List Event) (log : List Entry) → entries_after no_base h log ≡ log
entries_of_none h [] = refl
entries_of_none h (entry.Receipt r ∷ log) =
    let place : 0 + r.position ≡ r.position = omega arith in
    ap (λ (x : ℕ). receipt_of x r.event ∷ entries_after no_base h log) place
    ∙ ap (λ (x : List Entry). entry.Receipt r ∷ x) (entries_of_none h log)
entries_of_none h (entry.Survey v ∷ log) =
    ap (λ (x : Survey). entry.Survey x ∷ entries_after no_base h log) (survey_of_none (is_quiet (take v.position h)) v)
    ∙ ap (λ (x : List Entry). entry.Survey v ∷ x) (entries_of_none h log)

pub logs_from_start : LogsFromStart
logs_from_start r h seat log f =
    subst (λ (x : List Entry). Fits till (opening r 0) h seat x) (sym (f.2 ∙ entries_of_none h f.0)) f.1
