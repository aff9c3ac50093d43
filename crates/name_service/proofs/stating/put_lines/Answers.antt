use Rattle.lock_journal.proofs.Telling.{on_ok}
use Rattle.lock_journal.proofs.StateLines.{lines_behind}
use Rattle.name_service.specs.State.{name_holds, name_waits}
use Rattle.name_service.proofs.stating.put_lines.Goals as goal

pub returns-in-Ok-clause-lines : goal.returns-in-Ok-clause-lines
returns-in-Ok-clause-lines c =
    let v = c.args.names.now in
    on_ok c.put_waits.result _ _ c.put_waits.ensures.lines
    (lines_behind c.args.text.now.items c.put_holds.new.text.items c.put_waits.new.text.items (name_holds v.names v.locks) (name_waits v.names v.locks) c.in-Ok.ensures.lines)
