use Rattle.std.proofs.Common.{ℕ, List, length, ap, ◌∙◌}
use Rattle.ring_model.specs.declared.events.Event.{Event}
use Rattle.one_thread_ring.specs.Rings.{RingView}
use Rattle.ring_service.proofs.Refusing.{passed_group}
use Rattle.ring_service.proofs.turns.make_group.Goals as goal

pub returns-in-Ok-clause-turn : goal.returns-in-Ok-clause-turn
returns-in-Ok-clause-turn c =
    λ at. passed_group c.args.ring.now c.pass_group.new.self at (length c.history-from.result.now) c.args.seat c.args.order c.args.machines.now c.in-Ok.receipt c.segment.ensures.endless c.in-Ok.ensures.ok
    (ap (λ (h : List Event). length h) c.history-from.ensures ∙ ap (λ (d : RingView ℕ). length d.book.history) c.segment.ensures.is) c.in-Ok.ensures.refused
