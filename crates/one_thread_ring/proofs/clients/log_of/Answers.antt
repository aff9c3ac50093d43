use Rattle.std.proofs.Common.{length}
use Rattle.one_thread_ring.proofs.Telling.{next_within}
use Rattle.one_thread_ring.proofs.clients.log_of.Goals as goal

pub log_part-requires-clause-to : goal.log_part-requires-clause-to
log_part-requires-clause-to c =
    next_within c.loop-survey.place (length c.args.history.now) c.loop-survey.survey-index c.args.surveys.now _ c.loop-survey-test.true c.loop-survey.invariant.in_order
