use Rattle.saved_history.specs.Content.{content}
use Rattle.ring_check.specs.Legal.{IsFirstBad}
use Rattle.ring_check.specs.Lines.{lines}
use Rattle.wrong_bodies.proofs.Checks.{one_kind}
use Rattle.wrong_bodies.proofs.check.tells_another_kind.Goals as goal

pub returns-in-Err-Bad : goal.returns-in-Err-Bad
returns-in-Err-Bad c =
    let s = content c.args.saved.now in
    let line = c.in-Err-Bad.line in
    let real : IsFirstBad s.version (lines s) line c.in-Err-Bad.kind = rw c.in-Err-Bad.field-0-is at c.in-Err-Bad.ensures.right in
    record { wrong = λ some told. c.another_kind.ensures (one_kind s line line c.another_kind.result c.in-Err-Bad.kind told real) }
