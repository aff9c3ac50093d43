use Rattle.run_commands.proofs.FreshTexts.{fresh_settled}
use Rattle.run_commands.proofs.fresh.fresh_is_settled.Goals as goal

pub returns : goal.returns
returns c = fresh_settled c.legal_as_defined.ensures
