use Rattle.lock_names.proofs.Rising.{tokens_of_names_rise}
use Rattle.lock_names.proofs.laws.tokens_of_names_rise.Goals as goal

pub returns : goal.returns
returns c = tokens_of_names_rise
