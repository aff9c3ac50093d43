use Rattle.text_lines.proofs.Writing.{writes_err}
use Rattle.tool_parts.specs.Chained.{from_text, sums_text}
use Rattle.tool_parts.proofs.chain.put_rest.Goals as goal

pub returns-in-Err : goal.returns-in-Err
returns-in-Err g c = writes_err _ _ c.in-Err.fault (from_text c.args.sums.now.first) (sums_text c.args.sums.now c.args.digest.now) c.in-Err.ensures
