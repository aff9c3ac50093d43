use Rattle.folder_of_locks.proofs.Stars.{word_read, word_unread, word_starless}
use Rattle.folder_of_locks.proofs.pools.read_folder_word.Goals as goal

pub returns-in-Ok-clause-ok : goal.returns-in-Ok-clause-ok
returns-in-Ok-clause-ok c = word_read c.args.word.now c.cut.result.0.now c.in-Some.size.now _ (rw c.in-Some.is at c.cut.ensures) c.in-Ok.ensures.ok

pub returns-in-Err-clause-err : goal.returns-in-Err-clause-err
returns-in-Err-clause-err c = word_unread c.args.word.now c.cut.result.0.now c.in-Some.size.now c.in-Err.error (rw c.in-Some.is at c.cut.ensures) c.in-Err.ensures.err

pub returns-in-Err-read_list_word-clause-err : goal.returns-in-Err-read_list_word-clause-err
returns-in-Err-read_list_word-clause-err c = word_starless c.args.word.now c.cut.result.0.now c.in-Err-read_list_word.error (rw c.in-None.is at c.cut.ensures) c.in-Err-read_list_word.ensures.err
