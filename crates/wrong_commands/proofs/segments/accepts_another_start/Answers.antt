use Rattle.wrong_commands.proofs.Unchained.{no_start}
use Rattle.wrong_commands.proofs.segments.accepts_another_start.Goals as goal

pub returns-in-Err-Start : goal.returns-in-Err-Start
returns-in-Err-Start c =
    let refusal = rw c.in-Err-Start.field-0-is at c.in-Err-Start.ensures in
    record { wrong = λ a. no_start c.args.chain.now c.add.new.self c.args.bytes.now c.args.last c.begin_anew.new.chain refusal a }
