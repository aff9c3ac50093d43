use Rattle.std.proofs.Common.{◌-◌, arith}
use Rattle.name_history.proofs.Partitions.{last_taken}
use Rattle.name_history.proofs.ring_names.last_of.Goals as goal

pub returns : goal.returns
returns c =
    last_taken c.args.bindings.now c.args.count (c.args.count - 1) c.index-bindings-last.result (omega (arith, c.if-count-eq0.false)) c.requires c.index-bindings-last.is
