use Rattle.c_calls.proofs.ComingBack.{comes_back}
use Rattle.c_calls.proofs.laws.saves_come_back.Goals as goal

pub returns : goal.returns
returns c = comes_back
