use Rattle.std.proofs.Common.{Bool, inl, inr, subst}
use Rattle.folder_of_locks.specs.NameFolders.{IsPoolSaid}
use Rattle.tool_parts.specs.Worlds.{world}
use Rattle.lock_commands.specs.Locks.{folder_of, list_of}
use Rattle.lock_commands.proofs.Lent.{on_ok, on_err, lent_answer, lent_last, lent_live}
use Rattle.lock_commands.proofs.lending.run.Goals as goal

pub returns-in-Ok-true-clause-ok : goal.returns-in-Ok-true-clause-ok
returns-in-Ok-true-clause-ok g c =
    let was = world (g.D.Disk.holds c.args.disk.now) (g.I.Read.remaining c.args.input.now) (g.W.Write.contents c.args.out.now) (g.E.Write.contents c.args.err.now) in
    let is = world (g.D.Disk.holds c.run.new.disk) (g.I.Read.remaining c.run.new.input) (g.W.Write.contents c.run.new.out) (g.E.Write.contents c.run.new.err) in
    on_ok _ _ _ c.run.ensures.ok (lent_answer c.args.words.now was is (subst (λ (has : Bool). IsPoolSaid was.files (folder_of c.args.words.now) (list_of c.args.words.now) has) c.in-Ok-true.field-0-test c.in-Ok-true.ensures.ok))

pub returns-in-Ok-true-clause-lasts : goal.returns-in-Ok-true-clause-lasts
returns-in-Ok-true-clause-lasts g c = λ synced some.
    let was = world (g.D.Disk.holds c.args.disk.now) (g.I.Read.remaining c.args.input.now) (g.W.Write.contents c.args.out.now) (g.E.Write.contents c.args.err.now) in
    let is = world (g.D.Disk.holds c.run.new.disk) (g.I.Read.remaining c.run.new.input) (g.W.Write.contents c.run.new.out) (g.E.Write.contents c.run.new.err) in
    lent_last c.args.words.now was is (subst (λ (has : Bool). IsPoolSaid was.files (folder_of c.args.words.now) (list_of c.args.words.now) has) c.in-Ok-true.field-0-test c.in-Ok-true.ensures.ok) (g.D.Disk.leaves c.run.new.disk) (c.run.ensures.lasts synced some)

pub returns-in-Ok-true-clause-life : goal.returns-in-Ok-true-clause-life
returns-in-Ok-true-clause-life g c = λ off.
    let was = world (g.D.Disk.holds c.args.disk.now) (g.I.Read.remaining c.args.input.now) (g.W.Write.contents c.args.out.now) (g.E.Write.contents c.args.err.now) in
    let is = world (g.D.Disk.holds c.run.new.disk) (g.I.Read.remaining c.run.new.input) (g.W.Write.contents c.run.new.out) (g.E.Write.contents c.run.new.err) in
    lent_live c.args.words.now was is (subst (λ (has : Bool). IsPoolSaid was.files (folder_of c.args.words.now) (list_of c.args.words.now) has) c.in-Ok-true.field-0-test c.in-Ok-true.ensures.ok) c.run.ensures.life

-- ---- without a pool

pub returns-in-Ok-false-clause-err : goal.returns-in-Ok-false-clause-err
returns-in-Ok-false-clause-err g c =
    let said = subst (λ (has : Bool). IsPoolSaid (g.D.Disk.holds c.args.disk.now) (folder_of c.args.words.now) (list_of c.args.words.now) has) c.in-Ok-false.field-0-test c.in-Ok-false.ensures.ok in
    on_err _ _ _ c.run-in-Ok-false.ensures.err (λ e refused. inr (inr (inl (said, refused))))
