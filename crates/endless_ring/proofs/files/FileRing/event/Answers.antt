use Rattle.std.proofs.Common.{◌-◌, ◌∙◌, sym, subst}
use Rattle.endless_ring.specs.Endless.{IsEndless}
use Rattle.endless_ring.specs.Files.{FilesView}
use Rattle.endless_ring.proofs.Settled.{within}
use Rattle.endless_ring.proofs.files.FileRing.event.Goals as goal

pub shifted-requires-clause-within : goal.shifted-requires-clause-within
shifted-requires-clause-within c =
    within c.args.self.now.ring (c.args.number - c.base-base.result.now.events) c.in-Some.event
    (subst (λ (x : FilesView). IsEndless x.ring) c.self.view_is c.base-base.ensures.endless) (sym c.event_here.ensures ∙ c.in-Some.is)
