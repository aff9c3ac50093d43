use Rattle.std.proofs.Common.{◌≡◌, length, ap, arith}
use Rattle.saved_history.specs.Content.{Content, content}
use Rattle.ring_check.specs.Lines.{lines}
use Rattle.journal.specs.ContentAfter.{content_after}
use Rattle.journal.proofs.Countings.{lines_after}
use Rattle.journal.proofs.recover.legal_history.Goals as goal

pub check_saved-requires : goal.check_saved-requires
check_saved-requires c =
    let few = lines_after (content c.args.began) c.args.calls.now in
    let same : length (lines (content c.in-Ok.saved)) ≡ length (lines (content_after (content c.args.began) c.args.calls.now)) = ap (λ (s : Content). length (lines s)) c.in-Ok.ensures in
    let room = c.requires.room in
    omega arith
