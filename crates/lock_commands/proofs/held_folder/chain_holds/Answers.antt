use Rattle.std.proofs.Common.{inl, inr}
use Rattle.lock_commands.proofs.held_folder.chain_holds.Goals as goal

pub returns-in-Ok-chain_in-clause-err : goal.returns-in-Ok-chain_in-clause-err
returns-in-Ok-chain_in-clause-err g c =
    let x = c.in-Ok-chain_in.ensures.ok in
    inr ((x.0, x.1), c.in-Err.ensures.err)

pub returns-in-Err-chain_in-clause-err : goal.returns-in-Err-chain_in-clause-err
returns-in-Err-chain_in-clause-err g c = inl c.in-Err-chain_in.ensures.err
