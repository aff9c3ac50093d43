use Rattle.step_states.proofs.rows.put_row_cells.Goals as goal

pub returns : goal.returns
returns g c = rw (← c.rest.ensures.is, ← c.privileged.ensures.is, ← c.requires.at, ← c.requires.values, ← c.kind_of.ensures, ← c.machine_of.ensures, ← c.number_of.ensures) c.put_cells.ensures
