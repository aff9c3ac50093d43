use Rattle.std.proofs.Common.{◌≡◌}
use Rattle.serve_commands.proofs.Making.{kept_if_ok, made_answer, untouched}
use Rattle.serve_commands.proofs.beginning.begin_journal.Goals as goal

pub returns-clause-ok : goal.returns-clause-ok
returns-clause-ok g c =
    let ended = g.D.Disk.holds c.begin_locked-begun.new.disk in
    let after = g.D.Disk.holds c.take_back.new.disk in
    made_answer c.begin_locked-begun.result (λ x. x.1) (g.D.Disk.holds c.args.disk.now) (g.D.Disk.holds c.create.new.self) ended after c.args.name.now c.in-Ok.made c.args.saved
    c.in-Ok.ensures.created (kept_if_ok c.begin_locked-begun.result c.is_err.result (after ≡ ended) c.is_err.ensures.value c.take_back.ensures.kept) c.begin_locked-begun.ensures.ok

pub returns-clause-kept : goal.returns-clause-kept
returns-clause-kept g c =
    untouched c.begin_locked-begun.result (g.D.Disk.holds c.args.disk.now) (g.D.Disk.holds c.create.new.self) (g.D.Disk.holds c.begin_locked-begun.new.disk) (g.D.Disk.holds c.take_back.new.disk) c.args.name.now c.in-Ok.made
    c.in-Ok.ensures.created c.begin_locked-begun.ensures.kept c.take_back.ensures.unmade c.take_back.ensures.removed
