use Rattle.std.proofs.Common.{length, ◌-◌, ◌≡◌, ◌≤◌, take}
use Rattle.std.specs.Io.KnownBytes.{Appends}
use Rattle.disks.proofs.grown.put_all.Given as goal

abbrev pub invariant-loop-done : goal.invariant-loop-done
invariant-loop-done g l =
    (l.done ≤ length l.bytes)
    × Appends (g.F.EndFile.written l.initial.file) (g.F.EndFile.written l.file) (take l.done l.bytes)
    × (g.F.EndFile.on_disk l.file ≡ g.F.EndFile.on_disk l.initial.file)
    × (g.F.EndFile.is_sound l.file ≡ g.F.EndFile.is_sound l.initial.file)

abbrev pub decreases-loop-done : goal.decreases-loop-done
decreases-loop-done g l = length l.bytes - l.done
