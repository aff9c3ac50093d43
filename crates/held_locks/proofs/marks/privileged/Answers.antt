use Rattle.std.proofs.Common.{ℕ, sym, ◌∙◌, ap}
use Rattle.ring_model.specs.Ring.{is_privileged}
use Rattle.one_thread_ring.specs.Rings.{RingView}
use Rattle.held_locks.proofs.Settled.{only_is_first}
use Rattle.held_locks.proofs.marks.privileged.Goals as goal

pub returns-then-is_privileged : goal.returns-then-is_privileged
returns-then-is_privileged c =
    only_is_first c.args.ring.now.ring.book.now.ring.values c.likely-likely.result c.requires.settled c.likely-likely.ensures
    (ap (λ (d : RingView ℕ). is_privileged d.book.now.ring.values c.likely-likely.result) (sym c.segment.ensures.is) ∙ sym c.is_privileged.ensures ∙ c.if-is_privileged.true)
