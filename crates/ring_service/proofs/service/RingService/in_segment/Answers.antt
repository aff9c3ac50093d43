use Rattle.std.proofs.Common.{ap, ◌∙◌}
use Rattle.ring_service.specs.declared.rules.Rules.{Rules}
use Rattle.ring_service.specs.Services.{service_by, keeps_journal}
use Rattle.ring_service.proofs.service.RingService.in_segment.Goals as goal

pub returns-clause-journal : goal.returns-clause-journal
returns-clause-journal c = ap keeps_journal (c.new.ensures.is ∙ ap (λ (r : Rules). service_by r c.args.served) c.in_segment.ensures)
