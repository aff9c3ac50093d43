use Rattle.std.proofs.Common.{inl, inr}
use Rattle.tool_parts.proofs.chain.folder_sums.Goals as goal

pub returns-in-Err-chain_in-clause-err : goal.returns-in-Err-chain_in-clause-err
returns-in-Err-chain_in-clause-err g c =
    (c.args.entries.now, c.requires, inr (c.in-Ok.numbers, c.in-Ok.ensures.ok, c.in-Err-chain_in.ensures.err))

pub returns-in-Ok-chain_in-clause-ok : goal.returns-in-Ok-chain_in-clause-ok
returns-in-Ok-chain_in-clause-ok g c =
    let x = c.in-Ok-chain_in.ensures.ok in
    (c.args.entries.now, c.in-Ok.numbers, x.0, c.requires, c.in-Ok.ensures.ok, x.1, x.2, x.3)
