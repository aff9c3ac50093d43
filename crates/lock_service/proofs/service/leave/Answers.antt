use Rattle.std.proofs.Common.{◌≡◌, ℕ, List, [], ◌++◌, cond, refl, ap, ◌∙◌}
use Rattle.held_locks.specs.declared.answers.Left.{Left}
use Rattle.held_locks.specs.Kept.{LockView}
use Rattle.lock_protocol.specs.Names.{Names}
use Rattle.lock_journal.specs.Noting.{lines_of_left, notes_of_left}
use Rattle.lock_journal.proofs.Telling.{on_ok}
use Rattle.lock_service.proofs.service.leave.Goals as goal

pub returns-in-Ok : goal.returns-in-Ok
returns-in-Ok c =
    let new = c.leave.new.self in
    let names = c.args.segment.now.names in
    let named : c.names.result.now ≡ names = c.names.ensures ∙ c.leave.ensures.counted.names in
    let said = c.in-Ok.ensures
    ∙ ap (λ (left : List Left). c.args.pending.now.answers.items ++ lines_of_left c.names.result.now left) c.left.ensures
    ∙ ap (λ (x : Names). c.args.pending.now.answers.items ++ lines_of_left x new.left) named in
    let text : cond c.args.noting (notes_of_left c.locks.result.now c.left-in-Ok.result.now) [] ≡ cond c.args.noting (notes_of_left new.locks new.left) [] =
    ap (λ (vs : List LockView). cond c.args.noting (notes_of_left vs c.left-in-Ok.result.now) []) c.locks.ensures
    ∙ ap (λ (left : List Left). cond c.args.noting (notes_of_left new.locks left) []) c.left-in-Ok.ensures in (
      lines_of_left names new.left,
      cond c.args.noting (notes_of_left new.locks new.left) [],
      record { left = new.left; done = c.leave.ensures.left; says = refl; notes = refl; counted = c.leave.ensures.counted },
      on_ok c.note_left_if.result _ _ c.note_left_if.ensures (λ n. (said, n ∙ ap (λ (t : List ℕ). c.args.pending.now.notes.items ++ t) text)),
    )

pub returns-in-Err : goal.returns-in-Err
returns-in-Err c =
    let new = c.leave.new.self in (
      lines_of_left c.args.segment.now.names new.left,
      cond c.args.noting (notes_of_left new.locks new.left) [],
      record { left = new.left; done = c.leave.ensures.left; says = refl; notes = refl; counted = c.leave.ensures.counted },
      tt,
    )
