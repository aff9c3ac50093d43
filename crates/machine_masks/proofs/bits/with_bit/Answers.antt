use Rattle.machine_masks.proofs.Ones.{written_at, written_other, from_bit}
use Rattle.machine_masks.proofs.bits.with_bit.Goals as goal

pub returns-clause-at : goal.returns-clause-at
returns-clause-at c = written_at c.args.word c.args.bit c.from.result c.args.on c.requires (from_bit c.args.on c.from.result c.from.ensures)

pub returns-clause-others : goal.returns-clause-others
returns-clause-others c = λ b l ne. written_other c.args.word c.args.bit c.from.result b c.args.on c.requires (from_bit c.args.on c.from.result c.from.ensures) l ne
