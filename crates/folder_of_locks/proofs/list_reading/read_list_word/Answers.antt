use Rattle.std.proofs.Common.{refl, [], ◌∷◌, ◌++◌, map}
use Rattle.folder_of_locks.specs.Lists.{listed}
use Rattle.folder_of_locks.proofs.Pieces.{bad_piece, of_texts}
use Rattle.folder_of_locks.proofs.Marks.{word_marks}
use Rattle.folder_of_locks.proofs.list_reading.read_list_word.Goals as goal

pub returns-in-Err-clause-err : goal.returns-in-Err-clause-err
returns-in-Err-clause-err c = of_texts 44 58 (c.args.word.now ++ 44 ∷ []) c.in-Err.error (c.in-Err.ensures.err (44 ∷ []))

pub returns-in-Err-add_lock-clause-err : goal.returns-in-Err-add_lock-clause-err
returns-in-Err-add_lock-clause-err c =
    let read = c.in-Ok.ensures.ok in
    of_texts 44 58 (c.args.word.now ++ 44 ∷ []) c.in-Err-add_lock.error
    (bad_piece 44 58 c.args.word.now c.in-Ok.read.rest.now c.in-Ok.read.rest.now [] (44 ∷ []) (map listed c.in-Ok.read.locks.items) c.in-Err-add_lock.error word_marks read.read refl read.plain c.in-Err-add_lock.ensures.err)
