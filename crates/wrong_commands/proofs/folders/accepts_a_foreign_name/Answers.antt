use Rattle.wrong_commands.proofs.Gapped.{foreign_refused}
use Rattle.wrong_commands.proofs.folders.accepts_a_foreign_name.Goals as goal

pub returns-in-Err-Foreign : goal.returns-in-Err-Foreign
returns-in-Err-Foreign c =
    let foreign = rw c.in-Err-Foreign.field-0-is at c.in-Err-Foreign.ensures in
    record { wrong = λ all. foreign_refused c.args.entries.now _ c.args.numbers foreign all }
