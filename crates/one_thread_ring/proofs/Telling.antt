-- The logs of clients, where the history grows and where one is given a survey.
use Rattle.std.proofs.Common.{◌≡◌, ℕ, ◌+◌, ◌-◌, ◌<◌, ◌≤◌, ◌==◌, Bool, true, false, cond, List, [], ◌∷◌, ◌++◌, length, map, take, drop, get_or, set, append_assoc, refl, sym, ◌∙◌, ap, subst, inl, inr, arith, get_or-set_same, get_or-set_other}
use Rattle.std.specs.List.{slice_range}
use Rattle.std.proofs.lemmas.Bool.{cases_eq, cond-true, cond-false, eq-eqb, ne_eqb}
use Rattle.std.proofs.lemmas.List.Elements.{All-set}
use Rattle.std.proofs.lemmas.List.{append-nil, drop-append-le, take-append-le, length-drop, length-map, length-set, take_rest, drop_all, drop_more, get_or-map, map-set, same_lists}
use Rattle.ring_model.specs.declared.events.Event.{Event}
use Rattle.ring_model.specs.declared.events.Receipt.{Receipt}
use Rattle.ring_model.specs.declared.events.Survey.{Survey}
use Rattle.ring_model.specs.declared.events.Entry.{Entry}
use Rattle.ring_model.specs.declared.events.Entry.TheVariants as entry
use Rattle.ring_logs.specs.LogView.{LogView}
use Rattle.saved_history.specs.declared.saved.SavedSurvey.{SavedSurvey}
use Rattle.ring_logs.specs.Seats.{receipts_from}
use Rattle.one_thread_ring.specs.SavedOf.{saved_survey, entry_surveys}
use Rattle.one_thread_ring.specs.Rings.{grown, told_more}
use Rattle.one_thread_ring.specs.Texts.{surveys_told, surveys_kept}
use Rattle.one_thread_ring.specs.Clients.{ClientView, receipts_by, log_from, told_of, told_all, with_survey_at, StandInOrder, AllStandInOrder}
use Rattle.one_thread_ring.proofs.Growing.{AreOf}

-- ---- receipts

cond_append : (b : Bool) (r : Entry) (xs ys : List Entry) → cond b (r ∷ (xs ++ ys)) (xs ++ ys) ≡ cond b (r ∷ xs) xs ++ ys
cond_append true r xs ys = refl
cond_append false r xs ys = refl

pub receipts_more : (seat p : ℕ) (xs ys : List Event) → receipts_by seat p (xs ++ ys) ≡ receipts_by seat p xs ++ receipts_by seat (p + length xs) ys
receipts_more seat p [] ys = let same : p + 0 ≡ p = omega arith in ap (λ (n : ℕ). receipts_by seat n ys) (sym same)
receipts_more seat p (x ∷ xs) ys =
    let r : Entry = entry.Receipt (record { position = p; event = x }) in
    let more = receipts_by seat (p + 1) xs in
    let same : p + 1 + length xs ≡ p + length (x ∷ xs) = omega arith in
    let rest : receipts_by seat (p + 1) (xs ++ ys) ≡ more ++ receipts_by seat (p + length (x ∷ xs)) ys =
    receipts_more seat (p + 1) xs ys ∙ ap (λ (n : ℕ). more ++ receipts_by seat n ys) same in
    ap (λ (a : List Entry). cond (x.seat == seat) (r ∷ a) a) rest ∙ cond_append (x.seat == seat) r more (receipts_by seat (p + length (x ∷ xs)) ys)

-- those of events that are all the seat's, and of events that are another's
receipts_all : (seat p : ℕ) (es : List Event) → AreOf seat es → receipts_by seat p es ≡ receipts_from p es
receipts_all seat p [] o = refl
receipts_all seat p (e ∷ es) o =
    let r : Entry = entry.Receipt (record { position = p; event = e }) in
    let more = receipts_by seat (p + 1) es in
    cond-true (e.seat == seat) (r ∷ more) more (eq-eqb _ _ o.0) ∙ ap (λ (a : List Entry). r ∷ a) (receipts_all seat (p + 1) es o.1)

receipts_none : (seat other p : ℕ) (es : List Event) → (other ≡ seat → ⊥) → AreOf seat es → receipts_by other p es ≡ []
receipts_none seat other p [] ne o = refl
receipts_none seat other p (e ∷ es) ne o =
    let r : Entry = entry.Receipt (record { position = p; event = e }) in
    let more = receipts_by other (p + 1) es in
    cond-false (e.seat == other) (r ∷ more) more (ne_eqb _ _ (λ q. ne (sym q ∙ o.0))) ∙ receipts_none seat other (p + 1) es ne o.1

-- ---- surveys in order

pub within_end : (place end : ℕ) (ss : List Survey) → StandInOrder place end ss → place ≤ end
within_end place end [] o = o
within_end place end (s ∷ ss) o = let one = o.0 in let rest = within_end s.position end ss o.1 in omega (arith, one, rest)

-- the next of these surveys is before the end
pub next_within : (place end i : ℕ) (ss : List Survey) (d : Survey) → i < length ss → StandInOrder place end (drop i ss) → (get_or ss i d).position ≤ end
next_within place end i ss d l o =
    let now : StandInOrder place end (get_or ss i d ∷ drop (i + 1) ss) = subst (λ (xs : List Survey). StandInOrder place end xs) (drop_more ss i d l) o in
    within_end (get_or ss i d).position end (drop (i + 1) ss) now.1

pub in_order_longer : (place end longer : ℕ) (ss : List Survey) → end ≤ longer → StandInOrder place end ss → StandInOrder place longer ss
in_order_longer place end longer [] l o = omega (arith, l, o)
in_order_longer place end longer (s ∷ ss) l o = (o.0, in_order_longer s.position end longer ss l o.1)

pub in_order_push : (place end : ℕ) (ss : List Survey) (s : Survey) → s.position ≡ end → StandInOrder place end ss → StandInOrder place end (ss ++ s ∷ [])
in_order_push place end [] s e o = (omega (arith, e, o), omega (arith, e))
in_order_push place end (x ∷ ss) s e o = (o.0, in_order_push x.position end ss s e o.1)

pub all_longer : (end longer : ℕ) (cs : List ClientView) → end ≤ longer → AllStandInOrder end cs → AllStandInOrder longer cs
all_longer end longer cs l all = λ k d lt. in_order_longer 0 end longer (get_or cs k d).surveys l (all k d lt)

-- ---- logs

-- of a longer history: the log grows by the receipts of the seat's own events
log_longer : (seat place : ℕ) (h es : List Event) (ss : List Survey) → StandInOrder place (length h) ss →
    log_from seat place (h ++ es) ss ≡ log_from seat place h ss ++ receipts_by seat (length h) es
log_longer seat place h es [] o =
    let long = length-drop place h in
    let end : place + length (drop place h) ≡ length h = omega (arith, long, o) in
    ap (receipts_by seat place) (drop-append-le place h es o) ∙ (receipts_more seat place (drop place h) es
    ∙ ap (λ (n : ℕ). receipts_by seat place (drop place h) ++ receipts_by seat n es) end)
log_longer seat place h es (s ∷ ss) o =
    let from = o.0 in
    let to : s.position ≤ length h = within_end s.position (length h) ss o.1 in
    let long = length-drop place h in
    let part : slice_range (h ++ es) place s.position ≡ slice_range h place s.position =
    ap (take (s.position - place)) (drop-append-le place h es (omega (arith, from, to))) ∙ take-append-le (s.position - place) (drop place h) es (omega (arith, long, from, to)) in
    let rest = log_longer seat s.position h es ss o.1 in
    let both : log_from seat place (h ++ es) (s ∷ ss) ≡ receipts_by seat place (slice_range h place s.position) ++ (entry.Survey s ∷ (log_from seat s.position h ss ++ receipts_by seat (length h) es)) =
    λ i. receipts_by seat place (part i) ++ entry.Survey s ∷ rest i in
    both ∙ sym (append_assoc (receipts_by seat place (slice_range h place s.position)) (entry.Survey s ∷ log_from seat s.position h ss) (receipts_by seat (length h) es))

-- also with a survey of the end
log_surveyed : (seat place : ℕ) (h : List Event) (ss : List Survey) (s : Survey) → s.position ≡ length h → StandInOrder place (length h) ss →
    log_from seat place h (ss ++ s ∷ []) ≡ log_from seat place h ss ++ entry.Survey s ∷ []
log_surveyed seat place h [] s e o =
    let part : slice_range h place s.position ≡ drop place h = ap (λ (n : ℕ). slice_range h place n) e ∙ take_rest h place in
    let none : drop s.position h ≡ [] = drop_all s.position h (omega (arith, e)) in
    λ i. receipts_by seat place (part i) ++ entry.Survey s ∷ receipts_by seat s.position (none i)
log_surveyed seat place h (x ∷ ss) s e o =
    ap (λ (log : List Entry). receipts_by seat place (slice_range h place x.position) ++ entry.Survey x ∷ log) (log_surveyed seat x.position h ss s e o.1)
    ∙ sym (append_assoc (receipts_by seat place (slice_range h place x.position)) (entry.Survey x ∷ log_from seat x.position h ss) (entry.Survey s ∷ []))

-- ---- clients

-- clients, each with its place as its number
abbrev pub AreNumbered : List ClientView → Type 0
AreNumbered cs = (i : ℕ) (c : ClientView) → i < length cs → (get_or cs i c).number ≡ i

-- the client whose events the history grew by has their receipts, and no other anything new
pub told_grown : (h es : List Event) (cs : List ClientView) (seat : ℕ) → AreNumbered cs → seat < length cs → AreOf seat es → AllStandInOrder (length h) cs →
    told_all (h ++ es) cs ≡ told_more (told_all h cs) seat (receipts_from (length h) es)
told_grown h es cs seat numbered within of order =
    let nobody : LogView = record { number = seat; log = [] } in
    let more : List Entry = receipts_from (length h) es in
    let is : LogView = grown (get_or (told_all h cs) seat nobody) more in
    let as_many : length (told_more (told_all h cs) seat more) ≡ length cs = length-set (told_all h cs) seat is ∙ length-map cs (told_of h) in
    let as_many_before : length (told_all (h ++ es) cs) ≡ length cs = length-map cs (told_of (h ++ es)) in
    same_lists (told_all (h ++ es) cs) (told_more (told_all h cs) seat more) (as_many_before ∙ sym as_many) (λ i d l.
    let lt : i < length cs = omega (arith, l, as_many_before) in
    let none : ClientView = record { number = i; surveys = [] } in
    let c : ClientView = get_or cs i none in
    let now : get_or (told_all (h ++ es) cs) i d ≡ told_of (h ++ es) c = get_or-map (told_of (h ++ es)) cs i none d lt in
    let longer : log_from c.number 0 (h ++ es) c.surveys ≡ log_from c.number 0 h c.surveys ++ receipts_by c.number (length h) es = log_longer c.number 0 h es c.surveys (order i none lt) in
    elim (cases_eq i seat) [
      | inl same ↦
          let number : c.number ≡ seat = numbered i none lt ∙ same in
          let own : receipts_by c.number (length h) es ≡ more = ap (λ (n : ℕ). receipts_by n (length h) es) number ∙ receipts_all seat (length h) es of in
          let was : get_or (told_all h cs) seat nobody ≡ told_of h c = ap (λ (k : ℕ). get_or (told_all h cs) k nobody) (sym same) ∙ get_or-map (told_of h) cs i none nobody lt in
          let there : get_or (told_more (told_all h cs) seat more) i d ≡ is =
          ap (λ (k : ℕ). get_or (told_more (told_all h cs) seat more) k d) same ∙ get_or-set_same (told_all h cs) seat is d (subst (λ (n : ℕ). seat < n) (sym (length-map cs (told_of h))) within) in
          let log : log_from c.number 0 (h ++ es) c.surveys ≡ log_from c.number 0 h c.surveys ++ more = longer ∙ ap (λ (es : List Entry). log_from c.number 0 h c.surveys ++ es) own in
          let grew : told_of (h ++ es) c ≡ grown (told_of h c) more = λ j. record { number = c.number; log = log j } in
          now ∙ (grew ∙ (ap (λ (t : LogView). grown t more) (sym was) ∙ sym there))
      | inr ne ↦
          let other : (c.number ≡ seat → ⊥) = λ q. ne (sym (numbered i none lt) ∙ q) in
          let nothing : receipts_by c.number (length h) es ≡ [] = receipts_none seat c.number (length h) es other of in
          let was : get_or (told_all h cs) i d ≡ told_of h c = get_or-map (told_of h) cs i none d lt in
          let there : get_or (told_more (told_all h cs) seat more) i d ≡ get_or (told_all h cs) i d = get_or-set_other (told_all h cs) seat i is d ne in
          let log : log_from c.number 0 (h ++ es) c.surveys ≡ log_from c.number 0 h c.surveys =
          longer ∙ (ap (λ (es : List Entry). log_from c.number 0 h c.surveys ++ es) nothing ∙ append-nil (log_from c.number 0 h c.surveys)) in
          let same_told : told_of (h ++ es) c ≡ told_of h c = λ j. record { number = c.number; log = log j } in
          now ∙ (same_told ∙ (sym was ∙ sym there))
    ])

-- a client with a survey more
abbrev with_survey : ClientView → Survey → ClientView
with_survey c s = record { number = c.number; surveys = c.surveys ++ s ∷ [] }

module _ (h : List Event) (cs : List ClientView) (seat : ℕ) (s : Survey) (within : seat < length cs) (end : s.position ≡ length h) (order : AllStandInOrder (length h) cs) where
  abbrev nobody : ClientView
  nobody = record { number = seat; surveys = [] }

  abbrev client : ClientView
  client = get_or cs seat nobody

  -- the client of this number was given a survey of the end, and no other anything
  pub told_surveyed : told_all h (with_survey_at cs seat s) ≡ told_more (told_all h cs) seat (entry.Survey s ∷ [])
  told_surveyed =
      let log : log_from client.number 0 h (client.surveys ++ s ∷ []) ≡ log_from client.number 0 h client.surveys ++ entry.Survey s ∷ [] =
      log_surveyed client.number 0 h client.surveys s end (order seat nobody within) in
      let was : get_or (told_all h cs) seat (record { number = seat; log = [] }) ≡ told_of h client = get_or-map (told_of h) cs seat nobody (record { number = seat; log = [] }) within in
      let told : told_of h (with_survey client s) ≡ grown (told_of h client) (entry.Survey s ∷ []) = λ j. record { number = client.number; log = log j } in
      map-set (told_of h) cs seat (with_survey client s)
      ∙ ap (λ (t : LogView). set (told_all h cs) seat t) (told ∙ ap (λ (t : LogView). grown t (entry.Survey s ∷ [])) (sym was))

  pub order_surveyed : AllStandInOrder (length h) (with_survey_at cs seat s)
  order_surveyed = All-set (λ (c : ClientView). StandInOrder 0 (length h) c.surveys) cs seat (with_survey client s)
      (in_order_push 0 (length h) client.surveys s end (order seat nobody within)) order

-- ---- the surveys of logs

pub entry_surveys-append : (n : ℕ) (xs ys : List Entry) → entry_surveys n (xs ++ ys) ≡ entry_surveys n xs ++ entry_surveys n ys
entry_surveys-append n [] ys = refl
entry_surveys-append n (entry.Receipt r ∷ xs) ys = entry_surveys-append n xs ys
entry_surveys-append n (entry.Survey s ∷ xs) ys = ap (λ (ss : List SavedSurvey). saved_survey n s ∷ ss) (entry_surveys-append n xs ys)

silent_either : (n : ℕ) (b : Bool) (r : Receipt) (xs : List Entry) → entry_surveys n xs ≡ [] → entry_surveys n (cond b (entry.Receipt r ∷ xs) xs) ≡ []
silent_either n true r xs h = h
silent_either n false r xs h = h

receipts_silent : (n seat p : ℕ) (es : List Event) → entry_surveys n (receipts_by seat p es) ≡ []
receipts_silent n seat p [] = refl
receipts_silent n seat p (e ∷ es) = silent_either n (e.seat == seat) (record { position = p; event = e }) (receipts_by seat (p + 1) es) (receipts_silent n seat (p + 1) es)

log_kept : (n seat place : ℕ) (h : List Event) (ss : List Survey) → entry_surveys n (log_from seat place h ss) ≡ map (saved_survey n) ss
log_kept n seat place h [] = receipts_silent n seat place (drop place h)
log_kept n seat place h (s ∷ ss) =
    entry_surveys-append n (receipts_by seat place (slice_range h place s.position)) (entry.Survey s ∷ log_from seat s.position h ss)
    ∙ (ap (λ (xs : List SavedSurvey). xs ++ saved_survey n s ∷ entry_surveys n (log_from seat s.position h ss)) (receipts_silent n seat place (slice_range h place s.position))
    ∙ ap (λ (xs : List SavedSurvey). saved_survey n s ∷ xs) (log_kept n seat s.position h ss))

-- the surveys that clients keep are those of their logs
pub kept_told : (h : List Event) (cs : List ClientView) → surveys_told (told_all h cs) ≡ surveys_kept cs
kept_told h [] = refl
kept_told h (c ∷ cs) = λ i. log_kept c.number c.number 0 h c.surveys i ++ kept_told h cs i
