use Rattle.std.proofs.Common.{rules, inl}
use Rattle.held_locks.specs.Parts.{view_of}
use Rattle.held_locks.proofs.Turned.{fault_turned}
use Rattle.held_locks.proofs.parts.fault.Goals as goal

pub returns-in-Ok : goal.returns-in-Ok
returns-in-Ok c = inl (fault_turned (view_of c.args.lock.now) c.fault.new.ring c.args.client c.args.machine c.args.value c.in-Ok.old c.told.result (record { ring = c.in-Ok.ensures.kept; room = search rules }) c.in-Ok.ensures.made c.told.ensures c.in-Ok.ensures.old)
