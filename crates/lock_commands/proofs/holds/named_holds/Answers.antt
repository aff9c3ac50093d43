use Rattle.std.proofs.Common.{inl, inr}
use Rattle.lock_commands.proofs.holds.named_holds.Goals as goal

pub returns-in-Err-clause-err : goal.returns-in-Err-clause-err
returns-in-Err-clause-err g c = inl c.in-Err.ensures.err

pub returns-clause-err : goal.returns-clause-err
returns-clause-err g c = inr (c.in-Some.ensures.0, c.in-Err-judged_holds.ensures.err)
