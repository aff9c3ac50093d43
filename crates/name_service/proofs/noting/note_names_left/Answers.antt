use Rattle.std.proofs.Common.{ℕ, get_or, ◌∙◌, ap}
use Rattle.held_locks.specs.declared.answers.Left.{Left}
use Rattle.lock_journal.proofs.Telling.{piece_more}
use Rattle.name_service.specs.Noting.{is_freed, note_of_name_left}
use Rattle.name_service.proofs.Said.{no_left, freed_note}
use Rattle.name_service.proofs.noting.note_names_left.Goals as goal

pub loop-one-preserved : goal.loop-one-preserved
loop-one-preserved c =
    let one : Left = get_or c.args.left.now c.loop-one.one-index no_left in
    let freed = c.is_freed-freed.ensures ∙ ap (λ (n : ℕ). is_freed n one) c.fixed-fixed.ensures in
    piece_more (note_of_name_left c.args.names.now.fixed c.args.names.now.locks) c.args.left.now c.loop-one.one-index no_left _ _ _ c.loop-one-test.true c.loop-one.invariant
    (freed_note c.args.names.now.fixed c.args.names.now.locks one c.is_freed-freed.result c.loop-one.notes.items c.note_ring.new.notes.items freed c.in-Ok.ensures)
