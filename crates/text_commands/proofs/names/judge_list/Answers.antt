use Rattle.std.proofs.Common.{List, map, subst}
use Rattle.folder_of_locks.specs.declared.locks.ListedLock.{ListedLock}
use Rattle.folder_of_locks.specs.Lists.{listed, names_of}
use Rattle.folder_of_locks.specs.Pools.{pooled}
use Rattle.text_commands.specs.Judged.{AreEntriesUnjudged}
use Rattle.text_commands.proofs.JudgedFiles.{has_pool}
use Rattle.text_commands.proofs.names.judge_list.Goals as goal

pub returns-in-Err-clause-err : goal.returns-in-Err-clause-err
returns-in-Err-clause-err g c =
    has_pool (g.D.Disk.holds c.args.disk.now) c.args.folder.now c.args.entries.now (pooled c.args.list.now) c.in-Some.field-0 c.in-Err.fault c.in-Some.is
    (subst (λ (ls : List ListedLock). AreEntriesUnjudged (g.D.Disk.holds c.args.disk.now) c.args.folder.now c.args.entries.now (names_of (map listed ls)) c.in-Err.fault) c.deref.ensures.value c.in-Err.ensures.err)
