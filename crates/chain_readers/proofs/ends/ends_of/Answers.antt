use Rattle.std.proofs.Common.{◌≡◌, ℕ, ◌+◌, ◌<◌, ◌++◌, List, [], ◌∷◌, length, take, get_or, sym, subst, ◌∙◌}
use Rattle.std.proofs.lemmas.List.{take_more}
use Rattle.saved_history.specs.declared.saved.SavedSurvey.{SavedSurvey}
use Rattle.chain_readers.specs.declared.ends.Ends.{Ends}
use Rattle.chain_readers.specs.Ends.{AreTallies}
use Rattle.chain_readers.proofs.ends.ends_of.Goals as goal

one_more : (table : List Ends) (xs ss : List SavedSurvey) (i : ℕ) (d : SavedSurvey) → xs ≡ ss → i < length xs → AreTallies table (take i ss ++ get_or xs i d ∷ []) → AreTallies table (take (i + 1) ss)
one_more table xs ss i d same lt t =
    subst (λ (y : List SavedSurvey). AreTallies table (take (i + 1) y)) same (subst (λ (y : List SavedSurvey). AreTallies table y) (sym (take_more xs i d lt)) (subst (λ (y : List SavedSurvey). AreTallies table (take i y ++ get_or xs i d ∷ [])) (sym same) t))

pub loop-survey-preserved : goal.loop-survey-preserved
loop-survey-preserved c = record {
  many = c.put.ensures.same ∙ c.loop-survey.invariant.many;
  tallies = one_more c.put.new.table.items c.deref-survey-items.result.now c.args.ring.now.surveys.items c.loop-survey.survey-index (record { seat = 0; position = 0; privileged = 0; first = 0; calm = 0; rest = 0 }) c.deref-survey-items.ensures.value c.loop-survey-test.true (c.put.ensures.put (take c.loop-survey.survey-index c.args.ring.now.surveys.items) c.loop-survey.invariant.tallies);
}
