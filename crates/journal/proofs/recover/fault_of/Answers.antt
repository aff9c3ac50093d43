use Rattle.std.proofs.Common.{Some}
use Rattle.saved_history.specs.Content.{Content, content}
use Rattle.journal.specs.ContentAfter.{content_after}
use Rattle.journal.specs.Judging.{IsFaultOf}
use Rattle.journal.proofs.Heads.{for_head}
use Rattle.journal.proofs.recover.fault_of.Goals as goal

pub returns-in-Bad : goal.returns-in-Bad
returns-in-Bad c =
    let right = rw c.in-Bad.is at c.in-Err.ensures in
    λ b r e. for_head (λ (x : Content). IsFaultOf (content_after x c.args.calls.now) (Some c.in-Bad.kind)) c.args.bytes.now b (content c.in-Ok.began) r c.in-Ok.field-0-1.now e c.in-Ok.ensures (c.in-Bad.line, right)
