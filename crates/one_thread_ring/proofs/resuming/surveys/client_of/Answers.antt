use Rattle.std.proofs.Common.{[], ◌∷◌, ◌++◌, ◌∙◌, ap}
use Rattle.ring_model.specs.declared.events.Survey.{Survey}
use Rattle.one_thread_ring.specs.Clients.{ClientView}
use Rattle.one_thread_ring.proofs.Gathering.{told_next}
use Rattle.one_thread_ring.proofs.resuming.surveys.client_of.Goals as goal

pub loop-line-preserved : goal.loop-line-preserved
loop-line-preserved c =
    let was : ClientView = c.loop-line.client in
    told_next c.args.number c.args.lines.now was c.loop-line.low c.loop-line.line-index _ c.loop-line-test.true c.loop-line.invariant c.tell.new.self
    c.if-line-number.false c.if-line-low.false
    (c.in-Ok.ensures.told ∙ ap (λ (s : Survey). let more : ClientView = record { number = was.number; surveys = was.surveys ++ s ∷ [] } in more) c.survey_told.ensures)
