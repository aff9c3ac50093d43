-- A history that grows by events of one client, and the logs of all.
use Rattle.std.proofs.Common.{◌≡◌, ℕ, zero, suc, ◌+◌, ◌≤◌, ◌==◌, List, [], ◌∷◌, ◌++◌, Some, slice_get, length, length-append, append_assoc, take, subst, ap, sym, ◌∙◌, refl, arith}
use Rattle.std.proofs.lemmas.List.{append-nil, take-append-le}
use Rattle.std.proofs.lemmas.List.Elements.{filter-append}
use Rattle.std.proofs.lemmas.Bool.{cond-true, cond-false, eq-eqb, ne_eqb}
use Rattle.std.proofs.lemmas.Option.{slice_get_within}
use Rattle.ring_model.specs.Ring.{privileged_count, first_privileged, rest}
use Rattle.ring_model.specs.History.{Works, State, after}
use Rattle.ring_model.specs.Groups.{left_after}
use Rattle.ring_model.specs.Surveys.{calm, survey_at}
use Rattle.ring_model.specs.Logs.{calls_of, receipts_of, IsFollowed, IsSurvey, Fits}
use Rattle.ring_model.specs.declared.events.Event.{Event}
use Rattle.ring_model.specs.declared.events.Survey.{Survey}
use Rattle.ring_model.specs.declared.events.Entry.{Entry}
use Rattle.ring_model.specs.declared.events.Entry.TheVariants as entry
use Rattle.ring_logs.specs.Seats.{receipts_from}

-- an event of a history is in a longer one
get_more : (h es : List Event) (p : ℕ) (e : Event) → slice_get h p ≡ Some e → slice_get (h ++ es) p ≡ Some e
get_more [] es p e at = cc
get_more (x ∷ h) es zero e at = at
get_more (x ∷ h) es (suc p) e at = get_more h es p e at

get_last : (h es : List Event) (e : Event) → slice_get (h ++ e ∷ es) (length h) ≡ Some e
get_last [] es e = refl
get_last (x ∷ h) es e = get_last h es e

-- the survey of a place, by the events before it
abbrev survey_by : {C : Type 0} → Works C → State C → ℕ → List Event → Survey
survey_by w a p before = record {
  position = p;
  privileged = privileged_count (after w a before).ring.values;
  first = first_privileged (after w a before).ring.values;
  calm = calm before;
  rest = rest (after w a before).ring;
}

survey_more : {C : Type 0} (w : Works C) (a : State C) (h es : List Event) (s : Survey) → IsSurvey w a h s → IsSurvey w a (h ++ es) s
survey_more w a h es s t =
    let same : take s.position (h ++ es) ≡ take s.position h = take-append-le s.position h es t.0 in
    let long = length-append h es in
    let within = t.0 in (
      omega arith,
      t.1 ∙ ap (λ (before : List Event). survey_by w a s.position before) (sym same),
      ap (λ (before : List Event). left_after before) same ∙ t.2,
    )

-- a log that is followed along a history is followed along a longer one
followed_more : {C : Type 0} (w : Works C) (a : State C) (h es : List Event) (front : ℕ) (log : List Entry) → IsFollowed w a h front log → IsFollowed w a (h ++ es) front log
followed_more w a h es front [] t = tt
followed_more w a h es front (entry.Receipt r ∷ log) t = (t.0, get_more h es r.position r.event t.1, followed_more w a h es (r.position + 1) log t.2)
followed_more w a h es front (entry.Survey s ∷ log) t = (t.0, survey_more w a h es s t.1, followed_more w a h es s.position log t.2)

-- and with more entries, which may be after any place of the history
followed_push : {C : Type 0} (w : Works C) (a : State C) (h es : List Event) (front : ℕ) (log tail : List Entry) → front ≤ length h → IsFollowed w a h front log →
    ((f : ℕ) → f ≤ length h → IsFollowed w a (h ++ es) f tail) → IsFollowed w a (h ++ es) front (log ++ tail)
followed_push w a h es front [] tail l t k = k front l
followed_push w a h es front (entry.Receipt r ∷ log) tail l t k =
    let within = slice_get_within h r.position r.event t.1 in
    (t.0, get_more h es r.position r.event t.1, followed_push w a h es (r.position + 1) log tail (omega (arith, within)) t.2 k)
followed_push w a h es front (entry.Survey s ∷ log) tail l t k = (t.0, survey_more w a h es s t.1, followed_push w a h es s.position log tail t.1.0 t.2 k)

-- the receipts of the events that a history grows by
receipts_follow : {C : Type 0} (w : Works C) (a : State C) (h es : List Event) (f : ℕ) → f ≤ length h → IsFollowed w a (h ++ es) f (receipts_from (length h) es)
receipts_follow w a h [] f l = tt
receipts_follow w a h (e ∷ es) f l =
    let long : length (h ++ e ∷ []) ≡ length h + 1 = length-append h (e ∷ []) in
    let more = receipts_follow w a (h ++ e ∷ []) es (length h + 1) (omega (arith, long)) in (
      l,
      get_last h es e,
      subst (λ (x : List Event). IsFollowed w a x (length h + 1) (receipts_from (length h + 1) es)) (append_assoc h (e ∷ []) es)
          (subst (λ (n : ℕ). IsFollowed w a ((h ++ e ∷ []) ++ es) (length h + 1) (receipts_from n es)) long more),
    )

receipts_of-append : (xs ys : List Entry) → receipts_of (xs ++ ys) ≡ receipts_of xs ++ receipts_of ys
receipts_of-append [] ys = refl
receipts_of-append (entry.Receipt r ∷ xs) ys = ap (λ (es : List Event). r.event ∷ es) (receipts_of-append xs ys)
receipts_of-append (entry.Survey s ∷ xs) ys = receipts_of-append xs ys

receipts_back : (n : ℕ) (es : List Event) → receipts_of (receipts_from n es) ≡ es
receipts_back n [] = refl
receipts_back n (e ∷ es) = ap (λ (xs : List Event). e ∷ xs) (receipts_back (n + 1) es)

-- events of one seat
abbrev pub AreOf : ℕ → List Event → Type 0
AreOf seat [] = Unit {0}
AreOf seat (e ∷ es) = (e.seat ≡ seat) × AreOf seat es

calls_all : (seat : ℕ) (es : List Event) → AreOf seat es → calls_of seat es ≡ es
calls_all seat [] o = refl
calls_all seat (e ∷ es) o =
    cond-true (e.seat == seat) (e ∷ calls_of seat es) (calls_of seat es) (eq-eqb _ _ o.0) ∙ ap (λ (xs : List Event). e ∷ xs) (calls_all seat es o.1)

calls_none : (seat other : ℕ) (es : List Event) → (other ≡ seat → ⊥) → AreOf seat es → calls_of other es ≡ []
calls_none seat other [] ne o = refl
calls_none seat other (e ∷ es) ne o =
    cond-false (e.seat == other) (e ∷ calls_of other es) (calls_of other es) (ne_eqb _ _ (λ q. ne (sym q ∙ o.0))) ∙ calls_none seat other es ne o.1

-- the client whose events they are has their receipts
pub own_fits : {C : Type 0} (w : Works C) (a : State C) (h es : List Event) (seat : ℕ) (log : List Entry) → AreOf seat es → Fits w a h seat log →
    Fits w a (h ++ es) seat (log ++ receipts_from (length h) es)
own_fits w a h es seat log o f = record {
  calls = receipts_of-append log (receipts_from (length h) es)
      ∙ (ap (λ (xs : List Event). xs ++ receipts_of (receipts_from (length h) es)) f.calls
      ∙ (ap (λ (xs : List Event). calls_of seat h ++ xs) (receipts_back (length h) es ∙ sym (calls_all seat es o))
      ∙ sym (filter-append (λ (e : Event). e.seat == seat) h es)));
  entries = followed_push w a h es 0 log (receipts_from (length h) es) (omega arith) f.entries (λ p l. receipts_follow w a h es p l);
}

-- every other client has nothing new
pub other_fits : {C : Type 0} (w : Works C) (a : State C) (h es : List Event) (seat other : ℕ) (log : List Entry) → (other ≡ seat → ⊥) → AreOf seat es → Fits w a h other log →
    Fits w a (h ++ es) other log
other_fits w a h es seat other log ne o f = record {
  calls = f.calls ∙ sym (filter-append (λ (e : Event). e.seat == other) h es
      ∙ (ap (λ (xs : List Event). calls_of other h ++ xs) (calls_none seat other es ne o) ∙ append-nil (calls_of other h)));
  entries = followed_more w a h es 0 log f.entries;
}

-- a client that was given the survey of the end
pub survey_fits : {C : Type 0} (w : Works C) (a : State C) (h : List Event) (seat : ℕ) (log : List Entry) (s : Survey) → s ≡ survey_at w a h (length h) → left_after (take (length h) h) ≡ 0 →
    Fits w a h seat log → Fits w a h seat (log ++ entry.Survey s ∷ [])
survey_fits w a h seat log s is none f =
    let place : s.position ≡ length h = ap (λ (x : Survey). x.position) is in
    let at : IsSurvey w a h s = subst (λ (x : Survey). IsSurvey w a h x) (sym is) (omega arith, refl, none) in
    let nothing : h ++ [] ≡ h = append-nil h in
    record {
      calls = receipts_of-append log (entry.Survey s ∷ []) ∙ (append-nil (receipts_of log) ∙ f.calls);
      entries = subst (λ (x : List Event). IsFollowed w a x 0 (log ++ entry.Survey s ∷ [])) nothing
          (followed_push w a h [] 0 log (entry.Survey s ∷ []) (omega arith) f.entries
          (λ p l. (omega (arith, place), subst (λ (x : List Event). IsSurvey w a x s) (sym nothing) at, tt)));
    }
