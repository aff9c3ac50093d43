use Rattle.std.proofs.Common.{Option, subst}
use Rattle.std.specs.Prelude.{string_bytes}
use Rattle.disks.specs.Held.{Held}
use Rattle.disks.specs.Lasting.{LeavesFront}
use Rattle.line_service.proofs.SegmentLasting.{front_kept}
use Rattle.line_service.proofs.Letting.{given_back}
use Rattle.line_service.proofs.ending.close_segment.Goals as goal

pub returns-in-Err-clause-held : goal.returns-in-Err-clause-held
returns-in-Err-clause-held g c =
    let w = c.args.segment.writer in
    given_back (g.D.Disk.holds c.args.disk.now) (g.D.Disk.holds c.settle.new.disk) (g.D.Disk.holds c.abandon.new.self) (string_bytes c.args.segment.name)
    (g.D.Grown.Grow.contents w.inner) (g.D.Grown.Grow.contents c.in-Err.inner) w.hasher c.in-Err.ensures.kept c.in-Err.ensures.same c.abandon.ensures.held

pub returns-in-Err-clause-left : goal.returns-in-Err-clause-left
returns-in-Err-clause-left g c =
    let name = string_bytes c.args.segment.name in
    let lasting = g.D.Grown.Grow.lasting c.args.segment.writer.inner in
    let left = g.D.Disk.leaves c.abandon.new.self in
    subst (λ (was : Option Held). LeavesFront was left name lasting) c.in-Err.ensures.left
    (front_kept (g.D.Disk.leaves c.settle.new.disk) left name lasting (g.D.Grown.Grow.lasting c.in-Err.inner) c.in-Err.ensures.given c.abandon.ensures.left)
