use Rattle.std.proofs.Common.{◌<◌, ◌++◌, length, length-append, inr, refl, arith}
use Rattle.saved_history.specs.Content.{content}
use Rattle.saved_history.specs.Spelling.{text}
use Rattle.tool_parts.specs.CheckText.{legal_line}
use Rattle.tool_parts.specs.Kept.{left_line}
use Rattle.tool_parts.proofs.Buffers.{flushed, line_left}
use Rattle.tool_parts.proofs.handing.print_and_tell.Goals as goal

pub returns-in_default-clause-err : goal.returns-in_default-clause-err
returns-in_default-clause-err g c =
    let sums = c.args.value.now.1 in
    let left = c.args.left.now in
    let both = length-append (legal_line sums) (left_line left.bytes left.bad) in
    let first : 0 < length (legal_line sums) = omega arith in
    let some : 0 < length (legal_line sums ++ left_line left.bytes left.bad) = omega (arith, both, first) in
    (refl, inr (flushed _ _ _ (text (content c.args.value.now.0)) c.in_ok-write_saved.ensures.written c.flush.ensures.bytes, line_left _ (legal_line sums ++ left_line left.bytes left.bad) some))
