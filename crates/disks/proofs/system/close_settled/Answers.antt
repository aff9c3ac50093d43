use Rattle.std.proofs.Common.{List, ℕ, Option, ap, subst}
use Rattle.disks.specs.Held.{Replaces}
use Rattle.disks.specs.Lasting.{Leaves}
use Rattle.disks.proofs.system.close_settled.Goals as goal

pub returns-in-Ok-clause-closed : goal.returns-in-Ok-clause-closed
returns-in-Ok-clause-closed g c =
    subst (λ (x : Option (List ℕ)). Replaces (g.C.FileCalls.holds c.args.calls.now) (g.C.FileCalls.holds c.close.new.self) c.args.name.now x)
    (ap g.C.End.EndFile.written c.file.ensures) c.in-Ok.ensures.closed

pub returns-in-Ok-clause-lasts : goal.returns-in-Ok-clause-lasts
returns-in-Ok-clause-lasts g c =
    subst (λ (x : Option (List ℕ)). Leaves (g.C.FileCalls.leaves c.args.calls.now) (g.C.FileCalls.leaves c.close.new.self) c.args.name.now x)
    (ap g.C.End.EndFile.on_disk c.file.ensures) c.in-Ok.ensures.lasts
