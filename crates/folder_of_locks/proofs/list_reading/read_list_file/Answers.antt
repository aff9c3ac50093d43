use Rattle.std.proofs.Common.{[], inl, inr, List, ℕ, map, append-nil, subst, rules}
use Rattle.folder_of_locks.specs.Lists.{listed}
use Rattle.folder_of_locks.specs.ListSteps.{IsReadFault}
use Rattle.folder_of_locks.proofs.Pieces.{read_all, no_list, of_texts, of_locks, empty, filled, none_listed}
use Rattle.folder_of_locks.proofs.list_reading.read_list_file.Goals as goal
use Rattle.folder_of_locks.proofs.list_reading.read_list_file.Goals.{then-not-is_empty-via-then-not-is_empty, then-not-is_empty-via-else-not-is_empty+then-is_empty}

pub returns-in-Err-clause-err : goal.returns-in-Err-clause-err
returns-in-Err-clause-err c = of_texts 10 32 c.args.text.now c.in-Err.error (subst (λ (t : List ℕ). IsReadFault 10 32 t c.in-Err.error) (append-nil c.args.text.now) (c.in-Err.ensures.err []))

pub returns-then-not-is_empty-clause-err : goal.returns-then-not-is_empty-clause-err
returns-then-not-is_empty-clause-err c =
    let read = c.in-Ok.ensures.ok in
    elim c.then-not-is_empty.branch [
      | then-not-is_empty-via-then-not-is_empty w ↦
          no_list 10 32 c.args.text.now c.in-Ok.read.rest.now (map listed c.in-Ok.read.locks.items) read.read read.plain (inl (filled c.in-Ok.read.rest.now w.if-not-is_empty.ensures))
      | then-not-is_empty-via-else-not-is_empty+then-is_empty w ↦
          no_list 10 32 c.args.text.now c.in-Ok.read.rest.now (map listed c.in-Ok.read.locks.items) read.read read.plain (inr (none_listed c.in-Ok.read.locks.items (search rules)))
    ]

pub returns-in-Ok-check_locks-clause-ok : goal.returns-in-Ok-check_locks-clause-ok
returns-in-Ok-check_locks-clause-ok c =
    let read = c.in-Ok.ensures.ok in
    (read_all 10 32 c.args.text.now c.in-Ok.read.rest.now (map listed c.in-Ok.read.locks.items) read.read (empty c.in-Ok.read.rest.now (search rules)), search rules)

pub returns-clause-err : goal.returns-clause-err
returns-clause-err c =
    let read = c.in-Ok.ensures.ok in
    of_locks 10 32 c.args.text.now (map listed c.in-Ok.read.locks.items) c.in-Err-check_locks.error (read_all 10 32 c.args.text.now c.in-Ok.read.rest.now (map listed c.in-Ok.read.locks.items) read.read (empty c.in-Ok.read.rest.now (search rules))) (search rules)
