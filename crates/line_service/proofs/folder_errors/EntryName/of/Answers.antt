use Rattle.std.proofs.Common.{arith}
use Rattle.line_service.proofs.Ranges.{first_bytes}
use Rattle.line_service.proofs.folder_errors.EntryName.of.Goals as goal

pub returns : goal.returns
returns c = let e = c.min-length.ensures in first_bytes c.loop-i.bytes c.args.name.now c.loop-i.i c.min-length.result c.loop-i.invariant.same (omega arith) (omega arith) e
