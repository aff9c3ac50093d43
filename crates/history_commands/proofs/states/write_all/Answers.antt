use Rattle.history_commands.proofs.Told.{table_ok, table_err, all_sized}
use Rattle.history_commands.proofs.states.write_all.Goals as goal

pub write_states-requires : goal.write_states-requires
write_states-requires g c = rw c.as_slice.ensures.value (all_sized c.args.saved.now c.requires)

pub returns-clause-ok : goal.returns-clause-ok
returns-clause-ok g c = rw (c.told.ensures, ← c.as_slice.ensures.value) (table_ok _ _ c.write_states.result _ c.write_states.ensures)

pub returns-clause-err : goal.returns-clause-err
returns-clause-err g c = rw (c.told.ensures, ← c.as_slice.ensures.value) (table_err _ _ c.write_states.result _ c.write_states.ensures)
