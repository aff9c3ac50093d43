use Rattle.std.proofs.Common.{◌<◌, length, inr, arith}
use Rattle.tool_parts.specs.CheckText.{legal_line}
use Rattle.text_commands.specs.Pictured.{picture_of}
use Rattle.tool_parts.proofs.Buffers.{flushed, line_left}
use Rattle.text_commands.proofs.picture.print_and_tell.Goals as goal

pub returns-in_default-clause-err : goal.returns-in_default-clause-err
returns-in_default-clause-err g c =
    let some : 0 < length (legal_line c.args.drawing.now.sums) = omega arith in
    inr (flushed _ _ _ (picture_of c.args.words.now c.args.drawing.now) c.in-Ok.ensures.drawn c.flush.ensures.bytes, line_left _ (legal_line c.args.drawing.now.sums) some)
