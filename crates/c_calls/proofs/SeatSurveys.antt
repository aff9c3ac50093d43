-- The surveys of a seat's log are those that a text has of the seat.
use Rattle.std.proofs.Common.{◌≡◌, ℕ, zero, suc, ◌+◌, ◌<◌, ◌==◌, Bool, true, false, cond, List, [], ◌∷◌, ◌++◌, length, get_or, map, refl, sym, ◌∙◌, ap, arith}
use Rattle.std.proofs.lemmas.Bool.{cond-true, cond-false, eq-eqb, ne_eqb}
use Rattle.std.proofs.lemmas.List.{append-nil}
use Rattle.ring_model.specs.declared.events.Survey.{Survey}
use Rattle.ring_model.specs.declared.events.Entry.{Entry}
use Rattle.ring_model.specs.declared.events.Entry.TheVariants as entry
use Rattle.ring_logs.specs.LogView.{LogView}
use Rattle.saved_history.specs.declared.saved.SavedSurvey.{SavedSurvey}
use Rattle.one_thread_ring.specs.SavedOf.{saved_survey, entry_surveys}
use Rattle.one_thread_ring.specs.Texts.{surveys_told}
use Rattle.c_calls.proofs.OneLog.{surveys_in}

-- those of a seat
abbrev picked : ℕ → List SavedSurvey → List SavedSurvey
picked seat [] = []
picked seat (s ∷ ss) = cond (s.seat == seat) (s ∷ picked seat ss) (picked seat ss)

picked_append : (seat : ℕ) (xs ys : List SavedSurvey) → picked seat (xs ++ ys) ≡ picked seat xs ++ picked seat ys
picked_append seat [] ys = refl
picked_append seat (x ∷ xs) ys = go (x.seat == seat) (picked_append seat xs ys)
  where
    go : (b : Bool) → picked seat (xs ++ ys) ≡ picked seat xs ++ picked seat ys → cond b (x ∷ picked seat (xs ++ ys)) (picked seat (xs ++ ys)) ≡ cond b (x ∷ picked seat xs) (picked seat xs) ++ picked seat ys
    go true e = ap (λ (ss : List SavedSurvey). x ∷ ss) e
    go false e = e

picked_own : (seat other : ℕ) (log : List Entry) → other ≡ seat → picked seat (entry_surveys other log) ≡ entry_surveys other log
picked_own seat other [] is = refl
picked_own seat other (entry.Receipt r ∷ log) is = picked_own seat other log is
picked_own seat other (entry.Survey s ∷ log) is =
    let more : List SavedSurvey = picked seat (entry_surveys other log) in
    cond-true (other == seat) (saved_survey other s ∷ more) more (eq-eqb _ _ is) ∙ ap (λ (ss : List SavedSurvey). saved_survey other s ∷ ss) (picked_own seat other log is)

picked_other : (seat other : ℕ) (log : List Entry) → (other ≡ seat → ⊥) → picked seat (entry_surveys other log) ≡ []
picked_other seat other [] ne = refl
picked_other seat other (entry.Receipt r ∷ log) ne = picked_other seat other log ne
picked_other seat other (entry.Survey s ∷ log) ne =
    let more : List SavedSurvey = picked seat (entry_surveys other log) in
    cond-false (other == seat) (saved_survey other s ∷ more) more (ne_eqb _ _ ne) ∙ picked_other seat other log ne

-- the clients have numbers that rise by one, from this one on
abbrev NumberedFrom : ℕ → List LogView → Type 0
NumberedFrom k [] = Unit {0}
NumberedFrom k (c ∷ cs) = (c.number ≡ k) × NumberedFrom (k + 1) cs

numbered : (k : ℕ) (cs : List LogView) → ((i : ℕ) (c : LogView) → i < length cs → (get_or cs i c).number ≡ k + i) → NumberedFrom k cs
numbered k [] f = tt
numbered k (c ∷ cs) f =
    let first = f 0 c (omega arith) in
    (omega (arith, first), numbered (k + 1) cs (λ i d lt. let one = f (suc i) d (omega (arith, lt)) in omega (arith, one)))

picked_none : (seat k : ℕ) (cs : List LogView) → seat < k → NumberedFrom k cs → picked seat (surveys_told cs) ≡ []
picked_none seat k [] lt n = refl
picked_none seat k (c ∷ cs) lt n =
    let is = n.0 in
    let one : picked seat (entry_surveys c.number c.log) ≡ [] = picked_other seat c.number c.log (λ e. absurd (omega (arith, lt, is, e))) in
    picked_append seat (entry_surveys c.number c.log) (surveys_told cs) ∙ (ap (λ (ss : List SavedSurvey). ss ++ picked seat (surveys_told cs)) one ∙ picked_none seat (k + 1) cs (omega (arith, lt)) n.1)

picked_at : (seat k i : ℕ) (cs : List LogView) (d : LogView) → seat ≡ k + i → NumberedFrom k cs → i < length cs → picked seat (surveys_told cs) ≡ entry_surveys (get_or cs i d).number (get_or cs i d).log
picked_at seat k i [] d at n lt = absurd (omega arith)
picked_at seat k zero (c ∷ cs) d at n lt =
    let is = n.0 in
    let one = picked_own seat c.number c.log (omega (arith, at, is)) in
    let rest : picked seat (surveys_told cs) ≡ [] = picked_none seat (k + 1) cs (omega (arith, at)) n.1 in
    picked_append seat (entry_surveys c.number c.log) (surveys_told cs)
    ∙ ((λ j. one j ++ rest j) ∙ append-nil (entry_surveys c.number c.log))
picked_at seat k (suc i) (c ∷ cs) d at n lt =
    let is = n.0 in
    let one : picked seat (entry_surveys c.number c.log) ≡ [] = picked_other seat c.number c.log (λ e. absurd (omega (arith, at, is, e))) in
    picked_append seat (entry_surveys c.number c.log) (surveys_told cs)
    ∙ (ap (λ (ss : List SavedSurvey). ss ++ picked seat (surveys_told cs)) one ∙ picked_at seat (k + 1) i cs d (omega (arith, at)) n.1 (omega (arith, lt)))

-- a survey without its seat
abbrev plain : SavedSurvey → Survey
plain s = record { position = s.position; privileged = s.privileged; first = s.first; calm = s.calm; rest = s.rest }

plain_all : (seat : ℕ) (log : List Entry) → map plain (entry_surveys seat log) ≡ surveys_in log
plain_all seat [] = refl
plain_all seat (entry.Receipt r ∷ log) = plain_all seat log
plain_all seat (entry.Survey s ∷ log) = ap (λ (ss : List Survey). s ∷ ss) (plain_all seat log)

-- clients with the same surveys, by their places: each has the same as the other at its place
pub same_surveys : (cs ds : List LogView) (i : ℕ) (x : LogView) → ((j : ℕ) (c : LogView) → j < length cs → (get_or cs j c).number ≡ j) → ((j : ℕ) (c : LogView) → j < length ds → (get_or ds j c).number ≡ j) →
    surveys_told cs ≡ surveys_told ds → i < length cs → i < length ds → surveys_in (get_or cs i x).log ≡ surveys_in (get_or ds i x).log
same_surveys cs ds i x first second same one two =
    let left = picked_at i 0 i cs x (omega arith) (numbered 0 cs (λ j c lt. let n = first j c lt in omega (arith, n))) one in
    let right = picked_at i 0 i ds x (omega arith) (numbered 0 ds (λ j c lt. let n = second j c lt in omega (arith, n))) two in
    sym (plain_all (get_or cs i x).number (get_or cs i x).log) ∙ (ap (map plain) (sym left ∙ (ap (picked i) same ∙ right)) ∙ plain_all (get_or ds i x).number (get_or ds i x).log)
