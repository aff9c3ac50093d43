use Rattle.one_thread_ring.specs.Clients.{told_all}
use Rattle.one_thread_ring.proofs.Closing.{right_run}
use Rattle.one_thread_ring.proofs.rings.closing.OneThreadRing+Till.close.Goals as goal

pub returns-clause-right : goal.returns-clause-right
returns-clause-right c = right_run (record { book = c.self.inside.book; logs = c.in-Ok.logs }) (told_all c.self.inside.book.history c.self.inside.clients.items) c.self.invariant.ring
    (rw (c.history.ensures.is, c.deref.ensures.value) at c.in-Ok.ensures)
