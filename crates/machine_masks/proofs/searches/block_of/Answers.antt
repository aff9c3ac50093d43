use Rattle.std.proofs.Common.{◌/◌, ◌*◌, ◌%◌, ◌^◌, get_or, ◌∙◌, arith}
use Rattle.std.proofs.lemmas.Nat.{and_le_r}
use Rattle.machine_masks.proofs.Sets.{block_at, low_bits}
use Rattle.machine_masks.proofs.searches.block_of.Goals as goal

pub returns-clause-bits : goal.returns-clause-bits
returns-clause-bits c = λ b l. low_bits _ b l ∙ block_at c.args.words.now c.args.block b l

pub returns-clause-few : goal.returns-clause-few
returns-clause-few c = let small = and_le_r (get_or c.args.words.now (c.args.block / 2) 0 / 2 ^ (c.args.block % 2 * 32)) 4294967295 in omega arith
