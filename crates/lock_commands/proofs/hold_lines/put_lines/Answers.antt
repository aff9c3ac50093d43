use Rattle.text_lines.proofs.Writing.{pieces_fault}
use Rattle.lock_commands.specs.ToldHolds.{called, chosen_line}
use Rattle.lock_commands.proofs.hold_lines.put_lines.Goals as goal

pub returns-in-Err : goal.returns-in-Err
returns-in-Err g c = pieces_fault _ (chosen_line c.args.choice (called c.args.names.now) c.args.ring) c.args.holds.now c.loop-hold.hold-index _ c.loop-hold-test.true _ _ _ c.loop-hold.invariant c.in-Err.fault c.in-Err.ensures
