use Rattle.std.proofs.Common.{map, arith}
use Rattle.saved_history.specs.Content.{block_of}
use Rattle.ring_check.proofs.Booleans.{below}
use Rattle.chain_readers.proofs.Counting.{few_lines}
use Rattle.chain_readers.proofs.joined_lines.are_few_lines.Goals as goal

pub returns : goal.returns
returns c = λ t. let lt = below c.count_lines.result 18446744073709551614 t in few_lines (map block_of c.args.rings.now) c.count_lines.result c.count_lines.ensures (omega (arith, lt))
