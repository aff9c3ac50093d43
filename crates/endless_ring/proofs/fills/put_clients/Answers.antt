use Rattle.one_thread_ring.proofs.SavedParts.{logs_spelled}
use Rattle.one_thread_ring.specs.Texts.{client_surveys}
use Rattle.endless_ring.proofs.Filled.{below_more, below_all}
use Rattle.endless_ring.proofs.fills.put_clients.Goals as goal

pub loop-client-preserved : goal.loop-client-preserved
loop-client-preserved c =
    let told = rw (c.number.ensures.is, c.surveys.ensures) at c.put_surveys-behind.ensures.written in
    let fit = rw (c.number.ensures.is, c.surveys.ensures) at c.put_surveys-behind.ensures.fits in
    below_more (logs_spelled client_surveys) c.loop-client.invariant _ _ c.client-item.result _ c.client-item.is c.loop-client-test.true told fit

pub returns : goal.returns
returns c = let p = below_all (logs_spelled client_surveys) c.loop-client.invariant c.loop-client-test.false in record { written = p.0; fits = p.1 }
