use Rattle.std.proofs.Common.{◌∙◌, ◌^◌, length, ap, arith}
use Rattle.std.proofs.lemmas.List.{take_all}
use Rattle.ring_service.proofs.Counting.{kept_count, as_many_kept, many_kept}
use Rattle.ring_service.proofs.totals.surveys_of.Goals as goal

pub returns-in_err-all-clause-none : goal.returns-in_err-all-clause-none
returns-in_err-all-clause-none c =
    let size = ap length c.surveys.ensures in
    λ _. many_kept (2 ^ 64) c.clients-clients.result.now c.args.ring.now.clients c.loop-client.client-index c.loop-client.all c.client-item.result c.clients-clients.ensures.surveys c.loop-client-test.true c.loop-client.invariant c.client-item.is (λ few. c.in_err-all.ensures (omega (arith, few, size)))

pub returns-clause-some : goal.returns-clause-some
returns-clause-some c =
    c.loop-client.invariant ∙ (ap kept_count (take_all _ _ c.loop-client-test.false) ∙ as_many_kept c.clients-clients.result.now c.args.ring.now.clients c.clients-clients.ensures.surveys)
