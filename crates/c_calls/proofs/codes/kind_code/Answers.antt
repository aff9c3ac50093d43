use Rattle.std.proofs.Common.{refl}
use Rattle.c_calls.proofs.codes.kind_code.Goals as goal

pub returns-in-Reply : goal.returns-in-Reply
returns-in-Reply c = rw c.in-Reply.is refl
