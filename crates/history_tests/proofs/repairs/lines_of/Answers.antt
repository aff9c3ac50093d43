use Rattle.std.proofs.Common.{◌≡◌, length, ap, arith}
use Rattle.saved_history.specs.Content.{content}
use Rattle.saved_history.specs.Spelling.{text}
use Rattle.ring_check.proofs.SavedLines.{lines_some}
use Rattle.history_tests.proofs.repairs.lines_of.Goals as goal

pub check_saved-requires : goal.check_saved-requires
check_saved-requires c =
    let some = lines_some (content c.in-Ok.saved) in
    let same : length c.args.text.now ≡ length (text (content c.in-Ok.saved)) = ap length c.in-Ok.ensures.1 in
    omega arith
