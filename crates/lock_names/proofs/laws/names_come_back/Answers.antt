use Rattle.lock_names.proofs.ComingBack.{names_come_back, fixed_begin, fixed_come_back}
use Rattle.lock_names.proofs.Restores.{right_is_restored}
use Rattle.lock_names.proofs.laws.names_come_back.Goals as goal

pub returns-clause-begin : goal.returns-clause-begin
returns-clause-begin c = fixed_begin

pub returns-clause-back : goal.returns-clause-back
returns-clause-back c = names_come_back

pub returns-clause-again : goal.returns-clause-again
returns-clause-again c = fixed_come_back

pub returns-clause-right : goal.returns-clause-right
returns-clause-right c = right_is_restored
