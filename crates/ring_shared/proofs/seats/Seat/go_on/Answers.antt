use Rattle.std.proofs.Common.{List, sym, ap, subst}
use mathlib.Core.List.{IsPrefix}
use Rattle.ring_model.specs.declared.events.Event.{Event}
use Rattle.ring_shared.specs.Client.{Client}
use Rattle.ring_shared.proofs.Folding.{within_on}
use Rattle.ring_shared.proofs.seats.Seat.go_on.Goals as goal

pub lead_on-requires-clause-within : goal.lead_on-requires-clause-within
lead_on-requires-clause-within g c =
    let seen = sym (ap (λ (s : Client). s.seen) c.self.view_is) in
    let later = subst (λ (h : List Event). IsPrefix h c.args.shown.now) seen c.requires.later in
    within_on g.N.Name.start c.self.inside.front c.args.shown.now c.self.inside.last c.self.inside.summary.ring c.self.inside.summary.position c.self.inside.summary.calm c.self.invariant.2 later
