use Rattle.std.proofs.Common.{ℕ, List, Option, subst}
use Rattle.std.specs.Prelude.{string_bytes}
use Rattle.disks.specs.Held.{Held, LetsGo}
use Rattle.disks.specs.Lasting.{LeavesFront}
use Rattle.line_service.proofs.SegmentLasting.{front_has, front_kept}
use Rattle.serve_commands.proofs.serve.settle_journal.Goals as goal

pub returns-in-Err-clause-held : goal.returns-in-Err-clause-held
returns-in-Err-clause-held g c =
    let is = g.D.Disk.holds c.abandon.new.self in
    let had = g.D.Grown.Grow.contents c.args.writer in
    subst (λ (n : List ℕ). LetsGo (g.D.Disk.holds c.args.disk.now) is n had) c.requires.named
    (subst (λ (f : Option Held). LetsGo f is (string_bytes c.args.file) had) c.in-Err.ensures.kept
    (subst (λ (x : Option (List ℕ)). LetsGo (g.D.Disk.holds c.close_synced.new.self) is (string_bytes c.args.file) x) c.in-Err.ensures.given.0 c.abandon.ensures.held))

pub returns-in-Err-clause-left : goal.returns-in-Err-clause-left
returns-in-Err-clause-left g c =
    let was = g.D.Disk.leaves c.close_synced.new.self in
    let is = g.D.Disk.leaves c.abandon.new.self in
    let front = g.D.Grown.Grow.lasting c.args.writer in
    let back = g.D.Grown.Grow.lasting c.in-Err.writer in
    front_has was is c.args.name.now front
    (subst (λ (n : List ℕ). LeavesFront was is n front) c.requires.named (front_kept was is (string_bytes c.args.file) front back c.in-Err.ensures.given.1 c.abandon.ensures.left))
