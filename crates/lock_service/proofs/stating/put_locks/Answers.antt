use Rattle.lock_journal.specs.State.{holds_from, waits_from}
use Rattle.lock_journal.proofs.Telling.{on_ok}
use Rattle.lock_journal.proofs.StateLines.{lines_behind}
use Rattle.lock_service.proofs.stating.put_locks.Goals as goal

pub returns-in-Ok-clause-lines : goal.returns-in-Ok-clause-lines
returns-in-Ok-clause-lines c =
    let locks = c.args.locks.now in
    let names = c.args.names.now in
    on_ok c.put_waits.result _ _ c.put_waits.ensures.lines
    (lines_behind c.args.text.now.items c.put_holds.new.text.items c.put_waits.new.text.items (holds_from names 0 locks) (waits_from names 0 locks) c.in-Ok.ensures.lines)
