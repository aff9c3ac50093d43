use Rattle.std.proofs.Common.{ℕ, List, ◌++◌, ◌∙◌, ap, append_assoc}
use Rattle.lock_names.specs.Kept.{own_said, grant_said}
use Rattle.lock_journal.proofs.Telling.{on_ok}
use Rattle.name_service.specs.Noting.{lines_of_said}
use Rattle.name_service.proofs.Said.{both_lines}
use Rattle.name_service.proofs.noting.tell_name.Goals as goal

pub returns-in-Ok : goal.returns-in-Ok
returns-in-Ok c =
    let was = c.args.text.now.items in
    let own : List ℕ = lines_of_said (own_said c.args.client c.args.name.now c.args.own) in
    let other : List ℕ = lines_of_said (grant_said c.args.name.now c.args.granted) in
    on_ok c.tell_grant.result _ _ c.tell_grant.ensures
    (λ e. e ∙ ap (λ (u : List ℕ). u ++ other) c.in-Ok.ensures ∙ append_assoc was own other ∙ ap (λ (u : List ℕ). was ++ u) (both_lines c.args.client c.args.name.now c.args.own c.args.granted))
