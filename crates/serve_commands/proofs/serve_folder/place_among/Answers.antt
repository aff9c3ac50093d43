use Rattle.std.proofs.Common.{inr}
use Rattle.serve_commands.proofs.serve_folder.place_among.Goals as goal

pub returns-in-Ok-Some-clause-err : goal.returns-in-Ok-Some-clause-err
returns-in-Ok-Some-clause-err g c =
    inr (inr (c.in-Ok-Some.numbers, rw c.in-Ok-Some.field-0-is at c.in-Ok-Some.ensures.ok, c.in-Err-last_place.ensures.err))
