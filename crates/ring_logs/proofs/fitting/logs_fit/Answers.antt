use Rattle.std.proofs.Common.{◌≡◌, true, false, All, IfOk, List, sym, subst, ◌∙◌}
use Rattle.std.specs.Prelude.{Result, Ok, Err}
use Rattle.std.proofs.lemmas.List.Sorted.{All-permutation, IsPermutation-sym}
use Rattle.ring_model.specs.History.{opening}
use Rattle.ring_model.specs.Logs.{IsSurvey}
use Rattle.ring_model.specs.declared.events.Survey.{Survey}
use Rattle.ring_logs.proofs.AllSurveys.{all_split}
use Rattle.ring_logs.proofs.fitting.logs_fit.Goals as goal

false_true : {A : Type 0} → false ≡ true → A
false_true e = cc

ok_then : {A E : Type 0} (P S : A → Type 0) (r : Result A E) → ((v : A) → P v → S v) → IfOk r P → IfOk r S
ok_then P S (Ok v) f p = f v p
ok_then P S (Err e) f p = tt

pub returns-then-not-placed : goal.returns-then-not-placed
returns-then-not-placed g c =
    let split = all_split g.R.Resource.works (opening c.args.book.now.start g.R.Resource.first) c.args.book.now.history c.args.logs.now in (
      λ t. false_true t,
      λ f. false_true (sym c.if-not-placed.true ∙ c.in_ok-placed.ensures.1 (split.1 f).0),
    )

pub returns : goal.returns
returns g c =
    let split = all_split g.R.Resource.works (opening c.args.book.now.start g.R.Resource.first) c.args.book.now.history c.args.logs.now in
    let right = λ (ss : List Survey). All (IsSurvey g.R.Resource.works (opening c.args.book.now.start g.R.Resource.first) c.args.book.now.history) ss in
    let same = c.as_slice.ensures.value in
    let p = c.in_ok-surveys.ensures.permutation in
    ok_then _ _ c.are_right.result (λ b is. (
      λ t. split.0 (c.in_ok-placed.ensures.0 c.if-not-placed.false, All-permutation (IsSurvey g.R.Resource.works (opening c.args.book.now.start g.R.Resource.first) c.args.book.now.history) _ _ (IsPermutation-sym _ _ p) (subst right same (is.0 t))),
      λ f. is.1 (subst right (sym same) (All-permutation (IsSurvey g.R.Resource.works (opening c.args.book.now.start g.R.Resource.first) c.args.book.now.history) _ _ p (split.1 f).1)),
    )) c.are_right.ensures
