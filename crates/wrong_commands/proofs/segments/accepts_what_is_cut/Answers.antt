use Rattle.wrong_commands.proofs.Unchained.{no_cut}
use Rattle.wrong_commands.proofs.segments.accepts_what_is_cut.Goals as goal

pub returns-in-Ok : goal.returns-in-Ok
returns-in-Ok c =
    let refusal = rw c.in-Err-Unfinished.field-0-is at c.in-Err-Unfinished.ensures in
    record { wrong = λ a. no_cut c.args.chain.now c.add.new.self c.add-in-Err-Unfinished.new.self c.args.bytes.now refusal a }
