use Rattle.std.proofs.Common.{refl}
use Rattle.c_calls.proofs.codes.call_code.Goals as goal

pub returns-in-OutOfMemory : goal.returns-in-OutOfMemory
returns-in-OutOfMemory c = rw c.in-OutOfMemory.is refl
