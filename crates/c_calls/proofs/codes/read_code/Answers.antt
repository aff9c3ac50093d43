use Rattle.std.proofs.Common.{refl}
use Rattle.c_calls.proofs.codes.read_code.Goals as goal

pub returns-in-Syntax : goal.returns-in-Syntax
returns-in-Syntax c = rw c.in-Syntax.is refl
