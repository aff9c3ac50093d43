use Rattle.std.proofs.Common.{ℕ, List, sym, subst, refl, ◌∙◌, inr}
use Rattle.disks.specs.Held.{LetsGo}
use Rattle.line_service.specs.Digested.{hashed}
use Rattle.lock_commands.proofs.any_names.end_first.Goals as goal

pub returns-then-is_due-clause-err : goal.returns-then-is_due-clause-err
returns-then-is_due-clause-err g c =
    let w = c.in-Ok.next.writer in
    inr (
      _,
      (_, _, rw c.new-unsaid.ensures.items at c.in-Ok.ensures.ok),
      sym c.is_due.ensures ∙ c.if-is_due.true,
      subst (λ (n : List ℕ). LetsGo (g.D.Disk.holds c.serve_segments.new.disk) (g.D.Disk.holds c.abandon_segment.new.disk) n (hashed (g.D.Grown.Grow.contents w.inner) w.hasher)) c.in-Ok.ensures.named c.abandon_segment.ensures.held,
      refl,
    )
