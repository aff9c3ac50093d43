use Rattle.tool_parts.proofs.Leads.{leads_end}
use Rattle.tool_parts.proofs.chain.whole_chain.Goals as goal

pub returns-in-Ok-add_segment-clause-ok : goal.returns-in-Ok-add_segment-clause-ok
returns-in-Ok-add_segment-clause-ok g c =
    let a = c.in-Ok-add_segment.ensures.ok in
    leads_end _ _ _ _ _ _ a.0 a.1 c.in-Ok.ensures.ok a.2 a.3 a.4
