use Rattle.std.proofs.Common.{Option, subst, inr, ◌∙◌}
use Rattle.disks.specs.Held.{Held}
use Rattle.serve_commands.specs.Served.{permits_of}
use Rattle.serve_commands.specs.Lasting.{JournalLasts}
use Rattle.serve_commands.proofs.LastingJournals.{opened_is}
use Rattle.serve_commands.proofs.serve.serve_begun.Goals as goal

pub returns-in-Ok-serve_with_journal-clause-lasts : goal.returns-in-Ok-serve_with_journal-clause-lasts
returns-in-Ok-serve_with_journal-clause-lasts g c = λ synced first e.
    let journal = c.in-Ok.journal in
    let had = opened_is (g.D.Disk.holds c.args.disk.now) c.args.name.now first (g.D.Grown.Grow.contents journal) c.in-Ok.ensures.ok e in
    let told = rw c.permits_of.ensures at (c.serve_with_journal.ensures.lasts first had (c.in-Ok.ensures.lasts synced ∙ had)) in
    inr (subst (λ (f : Option Held). JournalLasts (permits_of c.args.words.now) c.args.name.now c.args.served.now f first (g.I.Read.remaining c.args.input.now) (g.I.Read.remaining c.serve_with_journal.new.input) (g.W.Write.contents c.args.out.now) (g.W.Write.contents c.serve_with_journal.new.out) (g.D.Disk.leaves c.serve_with_journal.new.disk)) c.open_journal.ensures.kept told)

pub returns-in-Err-serve_with_journal-clause-lasts : goal.returns-in-Err-serve_with_journal-clause-lasts
returns-in-Err-serve_with_journal-clause-lasts g c = λ synced first e.
    let journal = c.in-Ok.journal in
    let had = opened_is (g.D.Disk.holds c.args.disk.now) c.args.name.now first (g.D.Grown.Grow.contents journal) c.in-Ok.ensures.ok e in
    let told = rw c.permits_of.ensures at (c.serve_with_journal.ensures.lasts first had (c.in-Ok.ensures.lasts synced ∙ had)) in
    inr (subst (λ (f : Option Held). JournalLasts (permits_of c.args.words.now) c.args.name.now c.args.served.now f first (g.I.Read.remaining c.args.input.now) (g.I.Read.remaining c.serve_with_journal.new.input) (g.W.Write.contents c.args.out.now) (g.W.Write.contents c.serve_with_journal.new.out) (g.D.Disk.leaves c.serve_with_journal.new.disk)) c.open_journal.ensures.kept told)
