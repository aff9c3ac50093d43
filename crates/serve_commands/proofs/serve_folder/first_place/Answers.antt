use Rattle.std.proofs.Common.{inr}
use Rattle.serve_commands.proofs.serve_folder.first_place.Goals as goal

pub returns-clause-err : goal.returns-clause-err
returns-clause-err c = inr (c.in-Ok.saved, c.in-Ok.ensures.ok, c.in-Err-resume_rings.ensures.err)
