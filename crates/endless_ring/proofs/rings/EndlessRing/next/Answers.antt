use Rattle.std.proofs.Common.{◌∙◌, refl, ap, subst}
use Rattle.ring_model.specs.declared.events.Survey.{Survey}
use Rattle.ring_model.specs.Tallies.{base_with}
use Rattle.endless_ring.specs.Endless.{EndlessView, IsNextRing}
use Rattle.endless_ring.proofs.Segments.{tally_of, end_small, no_next, has_next, next_base_is, next_is}
use Rattle.endless_ring.proofs.rings.EndlessRing.next.Goals as goal

pub next-requires-clause-grants : goal.next-requires-clause-grants
next-requires-clause-grants c = (end_small c.self.inside.ring c.tally.result c.self.invariant.is.ring (tally_of c.self.inside.base c.self.inside.ring c.args.self.now c.tally.result c.self.view_is c.tally.ensures)).grants

pub returns-clause-ok : goal.returns-clause-ok
returns-clause-ok c =
    subst (λ (x : EndlessView). IsNextRing x (record { base = c.in-Some.base; ring = c.in-Ok.ring })) c.self.view_is
    (next_is c.self.inside.base c.self.inside.ring c.in-Some.base c.in-Ok.ring
    (c.in-Some.ensures.next
    ∙ ap (λ (v : Survey). base_with c.self.inside.base c.tally.result v) c.glance.ensures
    ∙ next_base_is c.self.inside.base c.tally.result c.self.inside.ring c.self.invariant.is.ring (tally_of c.self.inside.base c.self.inside.ring c.args.self.now c.tally.result c.self.view_is c.tally.ensures))
    c.in-Ok.ensures.fresh.0 c.in-Ok.ensures.fresh.1)

pub returns-in_default-clause-full : goal.returns-in_default-clause-full
returns-in_default-clause-full c = λ e. no_next c.self.inside.base c.tally.result c.self.inside.ring c.glance.result c.args.self.now c.self.invariant.is.ring (tally_of c.self.inside.base c.self.inside.ring c.args.self.now c.tally.result c.self.view_is c.tally.ensures) c.glance.ensures c.self.view_is (c.in_default.ensures.none refl)

pub returns-in_default-successor-clause-memory : goal.returns-in_default-successor-clause-memory
returns-in_default-successor-clause-memory c = λ e.
    has_next c.self.inside.base c.in-Some.base c.self.inside.ring c.args.self.now c.self.view_is
    (c.in-Some.ensures.next
    ∙ ap (λ (v : Survey). base_with c.self.inside.base c.tally.result v) c.glance.ensures
    ∙ next_base_is c.self.inside.base c.tally.result c.self.inside.ring c.self.invariant.is.ring (tally_of c.self.inside.base c.self.inside.ring c.args.self.now c.tally.result c.self.view_is c.tally.ensures))
    c.in-Some.ensures.room
