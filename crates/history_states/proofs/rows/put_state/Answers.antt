use Rattle.history_states.proofs.rows.put_state.Goals as goal

pub returns : goal.returns
returns g c = rw (← c.rest.ensures, ← c.requires.at, ← c.values-values.ensures, ← c.privileged_count.ensures) c.put_cells.ensures
