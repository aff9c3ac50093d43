use Rattle.std.proofs.Common.{inl}
use Rattle.lock_commands.proofs.holds.judged_holds.Goals as goal

pub returns-in-Err-clause-err : goal.returns-in-Err-clause-err
returns-in-Err-clause-err g c = inl c.in-Err.ensures.err
