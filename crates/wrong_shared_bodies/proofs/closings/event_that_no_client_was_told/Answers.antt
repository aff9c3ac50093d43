use Rattle.std.proofs.Common.{◌≤◌, length, arith}
use Rattle.std.proofs.lemmas.Grind.{common_steps}
use Rattle.wrong_shared_bodies.proofs.Closed.{told_nobody}
use Rattle.wrong_shared_bodies.proofs.closings.event_that_no_client_was_told.Goals as goal

pub returns : goal.returns
returns g c =
    let some : 1 ≤ length c.in-Ok.closed.logs.items = grind (arith, common_steps, c.in-Ok.ensures.logs.0) in
    record { wrong = λ p. told_nobody _ _ _ _ _ _ c.in-Ok-pass.ensures.ok some c.in-Ok.ensures.logs.1 c.in-Ok.ensures.calls p }
