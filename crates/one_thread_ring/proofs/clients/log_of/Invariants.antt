use Rattle.std.proofs.Common.{◌≡◌, ◌++◌, drop, length}
use Rattle.one_thread_ring.specs.Clients.{log_from, StandInOrder}
use Rattle.one_thread_ring.proofs.clients.log_of.Given as goal

abbrev pub invariant-loop-survey : goal.invariant-loop-survey
invariant-loop-survey l = record {
  in_order : StandInOrder l.place (length l.history) (drop l.survey-index l.surveys);
  logged : l.log.items ++ log_from l.seat l.place l.history (drop l.survey-index l.surveys) ≡ log_from l.seat 0 l.history l.surveys;
}
