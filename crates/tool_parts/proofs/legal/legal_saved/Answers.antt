use Rattle.std.proofs.Common.{◌≡◌, length, refl, ap, arith}
use Rattle.saved_history.specs.Content.{content}
use Rattle.saved_history.specs.Spelling.{text}
use Rattle.ring_check.proofs.SavedLines.{lines_some}
use Rattle.tool_parts.proofs.legal.legal_saved.Goals as goal

pub check_saved-requires : goal.check_saved-requires
check_saved-requires c =
    let some = lines_some (content c.in_ok-saved.saved) in
    let same : length c.args.bytes.now ≡ length (text (content c.in_ok-saved.saved)) = ap length c.in_ok-saved.ensures.1 in
    omega arith

pub returns-clause-ok : goal.returns-clause-ok
returns-clause-ok c = (
  record {
    content = content c.in_ok-saved.saved;
    fits = c.in_ok-saved.ensures.0;
    spelled = c.in_ok-saved.ensures.1;
    right = c.in_ok-sums.ensures.meaning;
    sums_right = c.in_ok-sums.ensures.right.1;
  },
  refl,
  c.in_ok-sums.ensures.right.0,
)
