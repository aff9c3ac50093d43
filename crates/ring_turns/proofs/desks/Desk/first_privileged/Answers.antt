use Rattle.std.proofs.Common.{◌≡◌, take, length, ap, arith}
use Rattle.ring_model.specs.Ring.{first_privileged}
use Rattle.ring_model.specs.History.{opening, after}
use Rattle.ring_model.specs.declared.events.Survey.{Survey}
use Rattle.ring_turns.proofs.Waits.{first_below}
use Rattle.ring_turns.proofs.desks.Desk.first_privileged.Goals as goal

pub returns-clause-machine : goal.returns-clause-machine
returns-clause-machine g c =
    let works = g.R.Resource.works in
    let a = opening g.N.Name.start g.R.Resource.first in
    let seen = c.glance-first.new.seat.seen in
    let first : c.glance-first.result.first ≡ first_privileged (after works a (take (length seen) seen)).ring.values = ap (λ (s : Survey). s.first) c.glance-first.ensures.told in
    let below = first_below works a seen (length seen) c.requires.start c.glance-first.ensures.legal_and_whole.0 in
    omega (arith, first, below)
