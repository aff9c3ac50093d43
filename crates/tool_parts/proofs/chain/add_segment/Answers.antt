use Rattle.std.proofs.Common.{List, ℕ, refl, sym, subst}
use Rattle.disks.specs.Held.{IsHeld}
use Rattle.line_service.specs.SegmentNames.{segment_file}
use Rattle.tool_parts.proofs.chain.add_segment.Goals as goal

pub returns : goal.returns
returns g c = record {
  ok = tt;
  err = (
    c.deref.result.now,
    refl,
    refl,
    subst (λ (t : List ℕ). IsHeld (g.D.Disk.holds c.args.disk.now) (segment_file c.args.folder.now c.args.number) t) (sym c.deref.ensures.value) c.in-Ok.ensures.ok,
    c.in-Err-add.ensures.1,
  );
}
