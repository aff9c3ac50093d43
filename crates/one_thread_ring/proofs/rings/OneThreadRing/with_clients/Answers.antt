use Rattle.one_thread_ring.proofs.Telling.{kept_told}
use Rattle.one_thread_ring.proofs.rings.OneThreadRing.with_clients.Goals as goal

pub returns-clause-surveys : goal.returns-clause-surveys
returns-clause-surveys g c = kept_told c.args.book.history c.args.clients.items
