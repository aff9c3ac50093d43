use Rattle.std.proofs.Common.{[], map, List, ℕ, append-nil, subst, rules}
use Rattle.folder_of_locks.specs.Lists.{listed}
use Rattle.folder_of_locks.specs.ListSteps.{IsReadFault}
use Rattle.folder_of_locks.proofs.Pieces.{read_all, no_front, empty, filled}
use Rattle.folder_of_locks.proofs.pools.read_front.Goals as goal

pub returns-in-Err-clause-err : goal.returns-in-Err-clause-err
returns-in-Err-clause-err c = subst (λ (t : List ℕ). IsReadFault c.args.end c.args.mark t c.in-Err.error) (append-nil c.args.front.now) (c.in-Err.ensures.err [])

pub returns-then-not-is_empty-clause-err : goal.returns-then-not-is_empty-clause-err
returns-then-not-is_empty-clause-err c =
    let read = c.in-Ok.ensures.ok in
    no_front c.args.end c.args.mark c.args.front.now c.in-Ok.read.rest.now (map listed c.in-Ok.read.locks.items) read.read read.plain (filled c.in-Ok.read.rest.now (search rules))

pub returns-clause-ok : goal.returns-clause-ok
returns-clause-ok c =
    let read = c.in-Ok.ensures.ok in
    read_all c.args.end c.args.mark c.args.front.now c.in-Ok.read.rest.now (map listed c.in-Ok.read.locks.items) read.read (empty c.in-Ok.read.rest.now (search rules))
