use Rattle.ring_model.proofs.OtherLead.{other_rest_rises, no_other_descent}
use Rattle.ring_model.proofs.meanings.other_lead_fails.Goals as goal

pub returns-clause-rises : goal.returns-clause-rises
returns-clause-rises c = other_rest_rises

pub returns-clause-fails : goal.returns-clause-fails
returns-clause-fails c = no_other_descent
