use Rattle.std.proofs.Common.{◌<◌, ℕ, sym, subst}
use Rattle.ring_shared.proofs.Folding.{summary_size}
use Rattle.ring_shared.proofs.shown.Shown.lead_on.Goals as goal

pub go_on-requires-clause-machine : goal.go_on-requires-clause-machine
go_on-requires-clause-machine g c =
    let w = c.requires.within in
    let size = summary_size g.N.Name.start w.past c.args.summary.now.ring c.args.summary.now.position c.args.summary.now.calm w.of_past in
    subst (λ (n : ℕ). c.args.effect.machine < n) (sym size.1) c.requires.effect.machine_is

pub go_on-requires-clause-value : goal.go_on-requires-clause-value
go_on-requires-clause-value g c =
    let w = c.requires.within in
    let size = summary_size g.N.Name.start w.past c.args.summary.now.ring c.args.summary.now.position c.args.summary.now.calm w.of_past in
    subst (λ (k : ℕ). c.args.effect.value < k) (sym size.0) c.requires.effect.value_is
