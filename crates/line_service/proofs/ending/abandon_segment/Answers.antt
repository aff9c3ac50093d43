use Rattle.std.specs.Prelude.{string_bytes}
use Rattle.line_service.proofs.Letting.{lets_go_hashed}
use Rattle.line_service.proofs.ending.abandon_segment.Goals as goal

pub returns-clause-held : goal.returns-clause-held
returns-clause-held g c =
    let w = c.args.segment.writer in
    lets_go_hashed (g.D.Disk.holds c.args.disk.now) (g.D.Disk.holds c.abandon.new.self) (string_bytes c.args.segment.name) (g.D.Grown.Grow.contents w.inner) w.hasher c.abandon.ensures.held
