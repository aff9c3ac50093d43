use Rattle.ring_text.proofs.Promised.{outcome_is_legal, outcome_is_right}
use Rattle.ring_text.proofs.laws.outcome_is_legal.Goals as goal

pub returns : goal.returns
returns c = record { legal = outcome_is_legal; right = outcome_is_right }
