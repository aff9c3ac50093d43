use Rattle.wrong_commands.proofs.Unchained.{no_base}
use Rattle.wrong_commands.proofs.segments.accepts_another_base.Goals as goal

pub returns-in-Err-Base : goal.returns-in-Err-Base
returns-in-Err-Base c =
    let refusal = rw c.in-Err-Base.field-0-is at c.in-Err-Base.ensures in
    record { wrong = λ a. no_base c.args.chain.now c.add.new.self c.args.bytes.now c.args.last c.begin_anew.new.chain refusal a }
