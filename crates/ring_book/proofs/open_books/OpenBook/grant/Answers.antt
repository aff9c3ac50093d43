use Rattle.std.proofs.Common.{rules, ◌≤◌, ◌+◌, length, ap, arith, sym, ◌∙◌}
use Rattle.ring_model.specs.Ring.{Ring, is_settled}
use Rattle.ring_model.specs.Limits.{event_limit}
use Rattle.ring_book.proofs.Growth.{IsOpenKept-pass, calls_fit, grants_fit, grant_even, settled_mark}
use Rattle.ring_book.proofs.open_books.OpenBook.grant.Goals as goal
use Rattle.ring_book.proofs.open_books.OpenBook.grant.Goals.{then-is_settled, else-is_settled}

pub add_grant-number-requires-clause-fits : goal.add_grant-number-requires-clause-fits
add_grant-number-requires-clause-fits g c = let fit = grants_fit _ _ _ c.requires.kept.book in omega arith

pub add_grant-number-requires-clause-even : goal.add_grant-number-requires-clause-even
add_grant-number-requires-clause-even g c = grant_even _ _ _ _ c.args.machine c.requires.kept c.requires.machine c.requires.privileged

pub add_call-requires-clause-fits : goal.add_call-requires-clause-fits
add_call-requires-clause-fits g c =
    let fit = calls_fit _ _ _ _ c.args.seat c.requires.kept c.requires.seat in
    rw c.add_grant-number.ensures.new (omega arith)

pub returns-clause-kept : goal.returns-clause-kept
returns-clause-kept g c =
    let bounded = c.requires.kept.book.bounded in
    let room = c.push-position.ensures.room in
    let fits : length c.args.self.now.events.list + 1 + c.push-position.new.self.room ≤ event_limit = omega arith in
    rw (c.push-position.ensures.list, c.add_call.ensures, c.add_grant-number.ensures.new, c.pass_of.ensures)
    (IsOpenKept-pass _ _ _ _ _ _ c.args.machine c.args.order _ _ _ _ c.args.left c.requires.kept fits (search rules) c.requires.seat
    (elim c.if-is_settled.branch [
      | then-is_settled v ↦ (v.settled-is ∙ v.if-is_settled.true) ∙ sym (ap (λ (r : Ring). is_settled r.values) c.move_machine.ensures.is
          ∙ settled_mark _ _ _ _ c.args.machine c.requires.kept c.requires.machine c.requires.privileged (sym c.is_settled.ensures ∙ v.if-is_settled.true))
      | else-is_settled v ↦ v.settled-is ∙ v.is_settled-settled.ensures
    ]))
