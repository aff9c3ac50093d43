use Rattle.one_thread_ring.proofs.Gathering.{IsToldTo}
use Rattle.one_thread_ring.proofs.resuming.surveys.client_of.Given as goal

abbrev pub invariant-loop-line : goal.invariant-loop-line
invariant-loop-line l = IsToldTo l.number l.lines l.client l.low l.line-index
