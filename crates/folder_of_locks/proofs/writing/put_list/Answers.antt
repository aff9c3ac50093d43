use Rattle.folder_of_locks.proofs.Texts.{line_fault}
use Rattle.folder_of_locks.proofs.writing.put_list.Goals as goal

pub returns-in-Err : goal.returns-in-Err
returns-in-Err g c = line_fault _ _ _ c.args.locks.now c.loop-lock.lock-index _ c.loop-lock-test.true c.loop-lock.invariant c.in-Err.fault c.in-Err.ensures
