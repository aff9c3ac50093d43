use Rattle.std.proofs.Common.{List, ℕ, refl, sym, subst}
use Rattle.disks.specs.Held.{IsHeld}
use Rattle.line_service.specs.SegmentNames.{segment_file}
use Rattle.folder_commands.proofs.join.join_segment.Goals as goal

pub returns-in-Err-Segment-clause-err : goal.returns-in-Err-Segment-clause-err
returns-in-Err-Segment-clause-err g c = (
  c.as_slice.result.now,
  refl,
  refl,
  subst (λ (t : List ℕ). IsHeld (g.D.Disk.holds c.args.disk.now) (segment_file c.args.folder.now c.args.number) t) (sym c.as_slice.ensures.value) c.in-Ok.ensures.ok,
  rw c.in-Err-Segment.field-0-is at c.in-Err-Segment.ensures.err,
)
