use Rattle.std.proofs.Common.{All, IfOk, List, sym, subst}
use Rattle.std.specs.Prelude.{Result, Ok, Err}
use Rattle.std.proofs.lemmas.List.Sorted.{All-permutation, IsPermutation-sym}
use Rattle.ring_model.specs.History.{opening}
use Rattle.ring_model.specs.Logs.{IsSurvey}
use Rattle.ring_model.specs.declared.events.Survey.{Survey}
use Rattle.ring_logs.proofs.fitting.surveys_fit.Goals as goal

ok_then : {A E : Type 0} (P S : A → Type 0) (r : Result A E) → ((v : A) → P v → S v) → IfOk r P → IfOk r S
ok_then P S (Ok v) f p = f v p
ok_then P S (Err e) f p = tt

pub returns : goal.returns
returns g c =
    let right = λ (ss : List Survey). All (IsSurvey g.R.Resource.works (opening c.args.book.now.start g.R.Resource.first) c.args.book.now.history) ss in
    let same = c.as_slice.ensures.value in
    let p = c.in_ok-ordered.ensures.permutation in
    ok_then _ _ c.are_right.result (λ b is. (
      λ t. All-permutation (IsSurvey g.R.Resource.works (opening c.args.book.now.start g.R.Resource.first) c.args.book.now.history) _ _ (IsPermutation-sym _ _ p) (subst right same (is.0 t)),
      λ f. is.1 (subst right (sym same) (All-permutation (IsSurvey g.R.Resource.works (opening c.args.book.now.start g.R.Resource.first) c.args.book.now.history) _ _ p f)),
    )) c.are_right.ensures
