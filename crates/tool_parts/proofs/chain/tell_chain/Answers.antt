use Rattle.std.proofs.Common.{◌++◌, codes, decimal}
use Rattle.text_lines.proofs.Writing.{writes_err}
use Rattle.tool_parts.specs.Chained.{from_text, sums_text}
use Rattle.tool_parts.proofs.chain.tell_chain.Goals as goal

pub returns-in-Err : goal.returns-in-Err
returns-in-Err g c =
    let s = c.args.sums.now in
    writes_err _ _ c.in-Err.fault (codes "legal segments " ++ decimal s.segments) (from_text s.first ++ sums_text s c.args.digest.now) c.in-Err.ensures
