use Rattle.std.proofs.Common.{inr}
use Rattle.folder_commands.proofs.recover.run.Goals as goal

pub returns-in-Ok-clause-ok : goal.returns-in-Ok-clause-ok
returns-in-Ok-clause-ok g c = inr (c.in-Some.ensures.0, c.in-Ok.ensures.ok (g.I.Read.remaining c.args.input.now) (g.I.Read.remaining c.args.input.now))
