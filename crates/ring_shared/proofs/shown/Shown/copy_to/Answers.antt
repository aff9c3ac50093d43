use Rattle.std.proofs.Common.{sym, ◌∙◌}
use Rattle.ring_shared.proofs.Folding.{summary_size}
use Rattle.ring_shared.proofs.shown.Shown.copy_to.Goals as goal

pub go_to-requires-clause-machines : goal.go_to-requires-clause-machines
go_to-requires-clause-machines g c =
    let mine = summary_size g.N.Name.start c.self.inside.front c.self.inside.summary.ring c.self.inside.summary.position c.self.inside.summary.calm c.self.invariant in
    let other = summary_size g.N.Name.start c.requires.past c.args.summary.now.ring c.args.summary.now.position c.args.summary.now.calm c.requires.of_past in
    other.1 ∙ sym mine.1

pub go_to-requires-clause-values : goal.go_to-requires-clause-values
go_to-requires-clause-values g c =
    let mine = summary_size g.N.Name.start c.self.inside.front c.self.inside.summary.ring c.self.inside.summary.position c.self.inside.summary.calm c.self.invariant in
    let other = summary_size g.N.Name.start c.requires.past c.args.summary.now.ring c.args.summary.now.position c.args.summary.now.calm c.requires.of_past in
    other.0 ∙ sym mine.0
