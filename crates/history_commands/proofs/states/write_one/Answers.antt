use Rattle.std.proofs.Common.{inl, refl}
use Rattle.saved_history.specs.Content.{content}
use Rattle.history_commands.proofs.Told.{one_ok, one_err, one_sized, block_at, no_block}
use Rattle.history_commands.proofs.states.write_one.Goals as goal

pub write_ring-requires : goal.write_ring-requires
write_ring-requires g c = one_sized c.args.saved.now c.args.place _ c.requires c.in-Ok.ensures.ok

pub returns-in-Err-clause-err : goal.returns-in-Err-clause-err
returns-in-Err-clause-err g c = inl (c.in-Err.ensures.err.0, no_block c.args.saved.now c.args.place c.in-Err.ensures.err.1, refl)

pub returns-clause-ok : goal.returns-clause-ok
returns-clause-ok g c =
    rw c.told.ensures (one_ok (content c.args.saved.now).rings c.args.place _ c.args.form _ _ c.write_ring.result (block_at c.args.saved.now c.args.place _ c.in-Ok.ensures.ok) c.write_ring.ensures)

pub returns-clause-err : goal.returns-clause-err
returns-clause-err g c =
    rw c.told.ensures (one_err (content c.args.saved.now).rings c.args.place _ c.args.form _ _ c.write_ring.result (block_at c.args.saved.now c.args.place _ c.in-Ok.ensures.ok) c.write_ring.ensures)
