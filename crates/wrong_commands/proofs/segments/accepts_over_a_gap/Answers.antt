use Rattle.wrong_commands.proofs.Unchained.{no_gap}
use Rattle.wrong_commands.proofs.segments.accepts_over_a_gap.Goals as goal

pub returns-in-Err-Number : goal.returns-in-Err-Number
returns-in-Err-Number c =
    let refusal = rw c.in-Err-Number.field-0-is at c.in-Err-Number.ensures in
    record { wrong = λ a. no_gap c.args.chain.now c.add.new.self c.args.bytes.now c.args.last c.begin_anew.new.chain refusal a }
