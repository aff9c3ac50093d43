use Rattle.std.proofs.Common.{List, ℕ, Option, ap, subst, string_bytes}
use Rattle.disks.specs.Held.{LetsGo}
use Rattle.disks.specs.Lasting.{LeavesFront, outlives}
use Rattle.disks.proofs.Lasting.{leaves_synced}
use Rattle.disks.proofs.system.SystemDiskDisk.abandon.Goals as goal

pub returns-clause-held : goal.returns-clause-held
returns-clause-held g c =
    subst (λ (x : Option (List ℕ)). LetsGo (g.C.FileCalls.holds c.args.self.now.calls) (g.C.FileCalls.holds c.let_go.new.self) (string_bytes c.args.name) x)
    (ap g.C.End.EndFile.written c.into_file.ensures) c.let_go.ensures.held

pub returns-clause-left : goal.returns-clause-left
returns-clause-left g c =
    leaves_synced (outlives g.C.End.EndFile.keeps_written c.args.grown.synced) (g.C.FileCalls.leaves c.args.self.now.calls) (g.C.FileCalls.leaves c.let_go.new.self) (string_bytes c.args.name) (g.C.End.EndFile.on_disk c.args.grown.file)
    (subst (λ (x : Option (List ℕ)). LeavesFront (g.C.FileCalls.leaves c.args.self.now.calls) (g.C.FileCalls.leaves c.let_go.new.self) (string_bytes c.args.name) x)
    (ap g.C.End.EndFile.on_disk c.into_file.ensures) c.let_go.ensures.left)
