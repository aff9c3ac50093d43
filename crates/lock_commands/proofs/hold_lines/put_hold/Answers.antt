use Rattle.std.proofs.Common.{◌++◌}
use Rattle.text_lines.proofs.Writing.{writes_err}
use Rattle.chain_readers.specs.HoldLines.{grant_text, end_text}
use Rattle.lock_commands.specs.ToldHolds.{called, told, told_text}
use Rattle.lock_commands.proofs.hold_lines.put_hold.Goals as goal

pub returns-in-Err : goal.returns-in-Err
returns-in-Err g c =
    writes_err _ _ c.in-Err.fault (told_text (told (called c.args.names.now) c.args.ring c.args.hold.now)) (grant_text c.args.hold.now.grant ++ end_text c.args.hold.now.end) c.in-Err.ensures
