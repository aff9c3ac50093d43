-- The answers of a book's readers are those of the report on its end.
use Rattle.std.proofs.Common.{◌≡◌, ◌∙◌, ℕ, List, length, ap}
use Rattle.std.proofs.lemmas.List.FromFn.{fill_by_all}
use Rattle.ring_model.specs.Ring.{bound}
use Rattle.ring_model.specs.History.{opening, after}
use Rattle.ring_model.specs.Surveys.{survey_at}
use Rattle.ring_model.specs.Grants.{grants_of, settled_grants_of}
use Rattle.ring_model.specs.Resources.{till}
use Rattle.ring_model.specs.declared.events.Survey.{Survey}
use Rattle.ring_book.specs.BookView.{BookView}
use Rattle.ring_book.specs.GrantsView.{GrantsView, IsGrantsOf}
use Rattle.ring_text.specs.Report.{states_line, standing_line, grants_line, each_machine}

-- the three lines of a book's end
abbrev pub states_text : BookView ℕ → List ℕ
states_text b = states_line (after till (opening b.start 0) b.history).ring.values

abbrev pub standing_text : BookView ℕ → List ℕ
standing_text b = standing_line (survey_at till (opening b.start 0) b.history (length b.history)) (bound (length b.start.values))

abbrev pub grants_text : BookView ℕ → List ℕ
grants_text b = grants_line (each_machine (length b.start.values) (λ i. grants_of i b.history)) (each_machine (length b.start.values) (λ i. settled_grants_of till (opening b.start 0) i b.history))

module _ (b : BookView ℕ) where
  pub standing_is : (s : Survey) (limit n : ℕ) → s ≡ survey_at till (opening b.start 0) b.history (length b.history) → limit ≡ bound n → n ≡ length b.start.values → standing_line s limit ≡ standing_text b
  standing_is s limit n is_survey is_bound is_n =
      ap (λ (v : Survey). standing_line v limit) is_survey
      ∙ ap (λ (m : ℕ). standing_line (survey_at till (opening b.start 0) b.history (length b.history)) m) (is_bound ∙ ap bound is_n)

  pub grants_are : (g : GrantsView) → IsGrantsOf till (opening b.start 0) b.history (length b.start.values) g → grants_line g.each g.settled ≡ grants_text b
  grants_are g is =
      ap (λ (xs : List ℕ). grants_line xs g.settled) (fill_by_all (λ i. grants_of i b.history) g.each (length b.start.values) 0 is.machines is.each)
      ∙ ap (λ (xs : List ℕ). grants_line (each_machine (length b.start.values) (λ i. grants_of i b.history)) xs) (fill_by_all (λ i. settled_grants_of till (opening b.start 0) i b.history) g.settled (length b.start.values) 0 is.settled_machines is.settled)
