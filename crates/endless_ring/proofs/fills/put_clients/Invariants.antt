use Rattle.one_thread_ring.proofs.SavedParts.{logs_text, LogsFit}
use Rattle.one_thread_ring.specs.Texts.{client_surveys}
use Rattle.endless_ring.proofs.Filled.{FilledBelow}
use Rattle.endless_ring.proofs.fills.put_clients.Given as goal

abbrev pub invariant-loop-client : goal.invariant-loop-client
invariant-loop-client l = FilledBelow (logs_text client_surveys) (LogsFit client_surveys) l.initial.out l.out l.place l.behind l.clients l.client-index
