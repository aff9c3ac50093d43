use Rattle.std.proofs.Common.{◌-◌, ◌≤◌, length, take, drop, ◌∙◌, arith}
use Rattle.std.proofs.lemmas.List.{length-take}
use Rattle.disks.proofs.Growing.{appends_more}
use Rattle.disks.proofs.grown.put_all.Goals as goal

pub loop-done-preserved : goal.loop-done-preserved
loop-done-preserved g c =
    let inv = c.loop-done.invariant in
    let bytes = c.args.bytes.now in
    let done = c.loop-done.done in
    let count : c.in-Ok.n ≤ length (take (length bytes - done) (drop done bytes)) = c.in-Ok.ensures.bound in
    let size = length-take (length bytes - done) (drop done bytes) in (
      omega (arith, inv.0, count, size),
      appends_more (g.F.EndFile.written c.args.file.now) (g.F.EndFile.written c.loop-done.file) (g.F.EndFile.written c.put.new.self) bytes done c.in-Ok.n inv.1 c.in-Ok.ensures.bytes,
      c.in-Ok.ensures.on_disk ∙ inv.2,
      c.in-Ok.ensures.sound ∙ inv.3,
    )
