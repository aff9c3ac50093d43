use Rattle.std.proofs.Common.{sym}
use Rattle.one_thread_ring.proofs.Telling.{kept_told}
use Rattle.one_thread_ring.proofs.rings.OneThreadRing.clients.Goals as goal

pub returns-clause-surveys : goal.returns-clause-surveys
returns-clause-surveys g c = rw (← c.self.view_is, c.as_slice.ensures.value) (sym (kept_told c.self.inside.book.history c.self.inside.clients.items))
