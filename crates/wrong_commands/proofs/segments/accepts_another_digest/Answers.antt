use Rattle.wrong_commands.proofs.Unchained.{no_digest}
use Rattle.wrong_commands.proofs.segments.accepts_another_digest.Goals as goal

pub returns-in-Err-Behind : goal.returns-in-Err-Behind
returns-in-Err-Behind c =
    let refusal = rw c.in-Err-Behind.field-0-is at c.in-Err-Behind.ensures in
    record { wrong = λ a. no_digest c.args.chain.now c.add.new.self c.args.bytes.now c.args.last c.begin_anew.new.chain refusal a }
