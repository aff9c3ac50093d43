use Rattle.wrong_commands.proofs.Gapped.{gap_refused}
use Rattle.wrong_commands.proofs.folders.accepts_a_gap.Goals as goal

pub returns-in-Err-Missing : goal.returns-in-Err-Missing
returns-in-Err-Missing c =
    let gap = rw c.in-Err-Missing.field-0-is at c.in-Err-Missing.ensures in
    record { wrong = λ all. gap_refused c.args.entries.now _ c.args.numbers gap all }
