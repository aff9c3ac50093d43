use Rattle.std.proofs.Common.{ℕ, List, ◌++◌, get_or, sym, ◌∙◌, ap}
use Rattle.std.specs.List.{flat_map}
use Rattle.std.proofs.lemmas.List.{take_all}
use Rattle.held_locks.specs.declared.answers.Left.{Left}
use Rattle.lock_journal.proofs.Telling.{piece_more}
use Rattle.name_service.proofs.Said.{no_left, grant_lines, lines_left, lines_of_left}
use Rattle.name_service.proofs.noting.tell_names_left.Goals as goal

pub loop-one-preserved : goal.loop-one-preserved
loop-one-preserved c =
    let one : Left = get_or c.args.left.now c.loop-one.one-index no_left in
    piece_more (lines_left c.args.names.now.names) c.args.left.now c.loop-one.one-index no_left _ _ _ c.loop-one-test.true c.loop-one.invariant
    (grant_lines c.args.names.now.names one c.name_at.result.now c.loop-one.text.items c.tell_grant.new.text.items c.name_at.ensures c.in-Ok.ensures)

pub returns : goal.returns
returns c =
    let was = c.args.text.now.items in
    c.loop-one.invariant
    ∙ ap (λ (x : List Left). was ++ flat_map (lines_left c.args.names.now.names) x) (take_all c.loop-one.one-index c.args.left.now c.loop-one-test.false)
    ∙ ap (λ (u : List ℕ). was ++ u) (sym (lines_of_left c.args.names.now.names c.args.left.now))
