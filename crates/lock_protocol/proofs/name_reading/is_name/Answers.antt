use Rattle.std.proofs.Common.{sym}
use Rattle.lock_protocol.proofs.ReadNames.{name_test}
use Rattle.lock_protocol.proofs.name_reading.is_name.Goals as goal

pub returns-then-is_length : goal.returns-then-is_length
returns-then-is_length c = name_test c.args.name.now c.leading.result c.leading.ensures (sym c.if-is_length.ensures)
