use Rattle.saved_history.specs.Content.{content}
use Rattle.ring_check.specs.Legal.{IsFirstBad}
use Rattle.ring_check.specs.Lines.{lines}
use Rattle.wrong_bodies.proofs.Checks.{one_line}
use Rattle.wrong_bodies.proofs.check.tells_another_line.Goals as goal

pub returns-in-Err-Bad : goal.returns-in-Err-Bad
returns-in-Err-Bad c =
    let s = content c.args.saved.now in
    let kind = c.in-Err-Bad.kind in
    let real : IsFirstBad s.version (lines s) c.in-Err-Bad.line kind = rw c.in-Err-Bad.field-0-is at c.in-Err-Bad.ensures.right in
    record { wrong = λ some told. c.another.ensures (one_line s c.another.result c.in-Err-Bad.line kind kind told real) }
