use Rattle.wrong_commands.proofs.Unchained.{no_refusal}
use Rattle.wrong_commands.proofs.segments.refuses_what_follows.Goals as goal

pub returns-in-Ok : goal.returns-in-Ok
returns-in-Ok c = record { wrong = λ r. no_refusal c.args.chain.now c.args.chain.now c.args.bytes.now c.args.last c.add.new.self c.in-Ok.ensures r }
