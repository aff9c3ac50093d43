use Rattle.std.proofs.Common.{◌-◌, ◌∙◌, ap, arith}
use Rattle.std.specs.Prelude.{ℕ, List, [], ◌∷◌}
use Rattle.std.proofs.lemmas.Result.{IfOk-weaker}
use Rattle.ring_repairs.proofs.RoundFacts.{rounds_counted}
use Rattle.ring_repairs.proofs.rounds.count_rounds.Goals as goal

pub of_two-requires : goal.of_two-requires
of_two-requires c =
    let few = c.without_rounds-none.ensures.few in
    let done = c.done.ensures.is in
    let within = c.done.ensures.within in
    let most = c.passes.ensures.counted.study.most in
    omega arith

pub returns-clause-counted : goal.returns-clause-counted
returns-clause-counted c =
    let none : ℕ = c.without_rounds-none.result in
    let two : ℕ → List ℕ = λ x. none ∷ (x - none) ∷ [] in
    IfOk-weaker c.of_two.result _ _
    (λ h e. rounds_counted c.args.repairs.now.study c.args.repairs.now.done none h c.passes.ensures.counted.study c.without_rounds-none.ensures.is
    (e ∙ ap two c.done.ensures.is)) c.of_two.ensures
