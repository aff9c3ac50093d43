use Rattle.std.proofs.Common.{map, inl, inr}
use Rattle.lock_commands.specs.ToldHolds.{called}
use Rattle.lock_commands.proofs.FolderNames.{items}
use Rattle.lock_commands.proofs.holds.run.Goals as goal

pub returns-in-Err-clause-err : goal.returns-in-Err-clause-err
returns-in-Err-clause-err g c = inl c.in-Err.ensures.err

pub returns-clause-err : goal.returns-clause-err
returns-clause-err g c = inr (called c.in-Ok.found.names, map items c.in-Ok.found.locks.items, c.in-Ok.ensures.ok, c.in-Err-tell_holds.ensures.err)
