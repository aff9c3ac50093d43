use Rattle.std.proofs.Common.{◌≡◌, length, ap, arith}
use Rattle.saved_history.specs.Content.{content}
use Rattle.saved_history.specs.Spelling.{text}
use Rattle.ring_check.proofs.SavedLines.{lines_some}
use Rattle.ring_check.proofs.laws.lines_are_few.Goals as goal

pub returns-clause-few : goal.returns-clause-few
returns-clause-few c = lines_some

pub returns-clause-read : goal.returns-clause-read
returns-clause-read c = λ bytes saved small right.
    let some = lines_some (content saved) in
    let same : length bytes ≡ length (text (content saved)) = ap length right.1 in
    omega arith
