use Rattle.std.proofs.Common.{List, ℕ, Option, ap, sym, subst, ◌∙◌}
use Rattle.disks.specs.Held.{Grows}
use Rattle.disks.specs.Lasting.{bytes_in, outlives}
use Rattle.disks.proofs.Lasting.{left_stays, leaves_same, opened_leaves, all_lasts}
use Rattle.disks.proofs.system.SystemDiskDisk.grow.Goals as goal

pub returns-in_err-end-clause-left : goal.returns-in_err-end-clause-left
returns-in_err-end-clause-left g c =
    left_stays (g.C.FileCalls.leaves c.args.self.now.calls) (g.C.FileCalls.leaves c.open_end.new.self) c.args.name.now (bytes_in (g.C.FileCalls.holds c.args.self.now.calls) c.args.name.now)
    c.open_end.ensures.left

pub returns-in_err-grown-clause-left : goal.returns-in_err-grown-clause-left
returns-in_err-grown-clause-left g c =
    left_stays (g.C.FileCalls.leaves c.args.self.now.calls) (g.C.FileCalls.leaves c.open_end.new.self) c.args.name.now (bytes_in (g.C.FileCalls.holds c.args.self.now.calls) c.args.name.now)
    c.open_end.ensures.left

pub returns-in-Ok-clause-opened : goal.returns-in-Ok-clause-opened
returns-in-Ok-clause-opened g c =
    subst (λ (x : Option (List ℕ)). Grows (g.C.FileCalls.holds c.args.self.now.calls) c.args.name.now x) (sym c.in_ok-grown.ensures.written) c.in_ok-end.ensures.opened

pub returns-in-Ok-clause-lasts : goal.returns-in-Ok-clause-lasts
returns-in-Ok-clause-lasts g c = λ asked.
    let all = c.in_ok-grown.ensures.settled asked ∙ sym c.in_ok-grown.ensures.written in (
      all_lasts (outlives g.C.End.EndFile.keeps_written c.in_ok-grown.grown.synced) (g.C.End.EndFile.on_disk c.in_ok-grown.grown.file) (g.C.End.EndFile.written c.in_ok-grown.grown.file) (ap (outlives g.C.End.EndFile.keeps_written) c.in_ok-grown.ensures.mode ∙ asked) all,
      leaves_same (g.C.FileCalls.leaves c.args.self.now.calls) (g.C.FileCalls.leaves c.open_end.new.self) (g.C.FileCalls.leaves c.keep_name.new.calls) c.args.name.now
          (g.C.End.EndFile.on_disk c.file.result.now) (g.C.End.EndFile.written c.in_ok-grown.grown.file)
          c.open_end.ensures.left (ap g.C.End.EndFile.on_disk c.file.ensures ∙ all) (c.in-Ok.ensures.lasts asked),
    )

pub returns-in-Ok-clause-left : goal.returns-in-Ok-clause-left
returns-in-Ok-clause-left g c =
    opened_leaves (outlives g.C.End.EndFile.keeps_written c.args.synced) (g.C.FileCalls.holds c.args.self.now.calls) (g.C.FileCalls.leaves c.args.self.now.calls)
    (g.C.FileCalls.leaves c.open_end.new.self) (g.C.FileCalls.leaves c.keep_name.new.calls) c.args.name.now (g.C.End.EndFile.on_disk c.file.result.now)
    (g.C.End.EndFile.written c.in_ok-end.end) c.in_ok-end.ensures.opened c.open_end.ensures.left
    (λ asked. ap g.C.End.EndFile.on_disk c.file.ensures ∙ c.in_ok-grown.ensures.settled asked) c.in-Ok.ensures.lasts c.keep_name.ensures.stays

pub returns-in-Err-clause-left : goal.returns-in-Err-clause-left
returns-in-Err-clause-left g c =
    left_stays (g.C.FileCalls.leaves c.args.self.now.calls) (g.C.FileCalls.leaves c.keep_name.new.calls) c.args.name.now (bytes_in (g.C.FileCalls.holds c.args.self.now.calls) c.args.name.now)
    (c.in-Err.ensures.left ∙ c.open_end.ensures.left)
