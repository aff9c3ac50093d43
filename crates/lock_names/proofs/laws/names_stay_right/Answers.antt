use Rattle.lock_names.proofs.Beginning.{names_begin}
use Rattle.lock_names.proofs.Fitting.{named_stays}
use Rattle.lock_names.proofs.laws.names_stay_right.Goals as goal

pub returns-clause-begin : goal.returns-clause-begin
returns-clause-begin c = names_begin

pub returns-clause-stay : goal.returns-clause-stay
returns-clause-stay c = named_stays
