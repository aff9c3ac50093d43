use Rattle.std.proofs.Common.{refl}
use Rattle.c_calls.proofs.codes.open_code.Goals as goal

pub returns-in-Seats : goal.returns-in-Seats
returns-in-Seats c = rw c.in-Seats.is refl
