use Rattle.std.proofs.Common.{◌≡◌, ℕ, List, [], ◌++◌, cond, refl, ap, ◌∙◌}
use Rattle.held_locks.specs.declared.answers.Left.{Left}
use Rattle.lock_names.specs.Names.{Said}
use Rattle.lock_names.specs.Kept.{NamedView}
use Rattle.lock_names.specs.Leaves.{said_left}
use Rattle.lock_journal.proofs.Telling.{on_ok}
use Rattle.name_service.specs.Noting.{lines_of_said, notes_of_names_left}
use Rattle.name_service.proofs.LeftSame.{said_same, fixed_same}
use Rattle.name_service.proofs.service.leave_names.Goals as goal

pub returns-in-Ok : goal.returns-in-Ok
returns-in-Ok c =
    let old = c.args.segment.now in
    let new = c.leave.new.self in
    let d = c.leave.ensures.left in
    let was = c.args.pending.now.answers.items in
    let says = c.in-Ok.ensures
    ∙ ap (λ (left : List Left). was ++ lines_of_said (said_left c.names.result.now.names left)) c.left.ensures
    ∙ ap (λ (v : NamedView). was ++ lines_of_said (said_left v.names new.left)) c.names.ensures
    ∙ ap (λ (x : List Said). was ++ lines_of_said x) (said_same old.named new.named c.args.client new.left d) in
    let text : cond c.args.noting (notes_of_names_left c.names-in-Ok.result.now.fixed c.names-in-Ok.result.now.locks c.left-in-Ok.result.now) [] ≡ cond c.args.noting (notes_of_names_left old.named.fixed new.named.locks new.left) [] =
    ap (λ (left : List Left). cond c.args.noting (notes_of_names_left c.names-in-Ok.result.now.fixed c.names-in-Ok.result.now.locks left) []) c.left-in-Ok.ensures
    ∙ ap (λ (v : NamedView). cond c.args.noting (notes_of_names_left v.fixed v.locks new.left) []) c.names-in-Ok.ensures
    ∙ ap (λ (n : ℕ). cond c.args.noting (notes_of_names_left n new.named.locks new.left) []) (fixed_same old.named new.named c.args.client new.left d) in (
      lines_of_said (said_left old.named.names new.left),
      cond c.args.noting (notes_of_names_left old.named.fixed new.named.locks new.left) [],
      record { done = d; says = refl; notes = refl; counted = c.leave.ensures.counted },
      on_ok c.note_names_left_if.result _ _ c.note_names_left_if.ensures (λ n. (says, n ∙ ap (λ (t : List ℕ). c.args.pending.now.notes.items ++ t) text)),
    )

pub returns-in-Err : goal.returns-in-Err
returns-in-Err c =
    let old = c.args.segment.now in
    let new = c.leave.new.self in (
      lines_of_said (said_left old.named.names new.left),
      cond c.args.noting (notes_of_names_left old.named.fixed new.named.locks new.left) [],
      record { done = c.leave.ensures.left; says = refl; notes = refl; counted = c.leave.ensures.counted },
      tt,
    )
