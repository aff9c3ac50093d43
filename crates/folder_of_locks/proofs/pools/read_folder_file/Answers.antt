use Rattle.folder_of_locks.proofs.Stars.{file_unread, file_starless, file_unended}
use Rattle.folder_of_locks.proofs.pools.read_folder_file.Goals as goal

pub returns-in-Err-clause-err : goal.returns-in-Err-clause-err
returns-in-Err-clause-err c = file_starless c.args.text.now c.cut.result.0.now c.in-Err.error (rw c.in_default.is at c.cut.ensures) c.in-Err.ensures.err

pub returns-in_default-pool_line-clause-err : goal.returns-in_default-pool_line-clause-err
returns-in_default-pool_line-clause-err c =
    file_unended c.args.text.now c.cut.result.0.now c.in-Some.after.now (rw c.in-Some.is at c.cut.ensures) c.in_default-pool_line.ensures

pub returns-in-Err-read_around-clause-err : goal.returns-in-Err-read_around-clause-err
returns-in-Err-read_around-clause-err c =
    file_unread c.args.text.now c.cut.result.0.now c.in-Some.after.now c.in-Some-pool_line.size.now c.in-Err-read_around.error (rw c.in-Some.is at c.cut.ensures) c.in-Some-pool_line.ensures c.in-Err-read_around.ensures.err
