use Rattle.std.proofs.Common.{arith, ap}
use Rattle.ring_farm.specs.Log.{Log}
use Rattle.one_thread_ring.specs.Counts.{survey_count}
use Rattle.ring_text.proofs.Sums.{surveys_within}
use Rattle.ring_text.proofs.counts.surveys_of.Goals as goal

pub overflow_add-all : goal.overflow_add-all
overflow_add-all c =
    let within = surveys_within c.args.logs.now c.loop-log.log-index c.log-item.result c.loop-log-test.true in
    let here = ap (λ (l : Log). survey_count l.entries.items) c.log-item.is in
    omega (arith, within, here, ap survey_count c.as_slice.ensures.value)
