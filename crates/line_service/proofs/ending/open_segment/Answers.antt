use Rattle.std.proofs.Common.{List, ℕ, subst}
use Rattle.std.specs.Prelude.{string_bytes}
use Rattle.disks.specs.Held.{Grows}
use Rattle.line_service.specs.Digested.{hashed}
use Rattle.line_service.proofs.Changing.{grown_known}
use Rattle.line_service.proofs.ending.open_segment.Goals as goal

pub returns-clause-known : goal.returns-clause-known
returns-clause-known g c =
    let held = g.D.Disk.holds c.args.disk.now in
    let contents = g.D.Grown.Grow.contents c.in-Ok.inner in
    grown_known held (string_bytes c.args.name) contents c.args.hasher (hashed (g.D.Grown.Grow.contents c.new-writer.result.inner) c.new-writer.result.hasher)
    (subst (λ (n : List ℕ). Grows held n contents) c.as_str.ensures.value c.in-Ok.ensures.opened) c.new-writer.ensures.known
