use Rattle.std.proofs.Common.{ℕ, List, Option, Some, refl, subst, sym}
use Rattle.std.specs.Borrow.{Bor}
use Rattle.std.specs.Option.{option_map}
use Rattle.serve_commands.specs.Served.{IsGivenHistory}
use Rattle.serve_commands.proofs.resuming.given_history.Goals as goal

pub returns-in-Ok-clause-ok : goal.returns-in-Ok-clause-ok
returns-in-Ok-clause-ok g c =
    subst (λ (n : Option (Bor (List ℕ))). IsGivenHistory (g.D.Disk.holds c.args.disk.now) (option_map (λ x. x.now) n) (Some c.in-Ok.saved)) (sym c.in-Some.is) (c.in-Ok.saved, refl, c.in-Ok.ensures.ok)
