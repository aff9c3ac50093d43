use Rattle.std.proofs.Common.{sym, ◌∙◌}
use Rattle.std.proofs.lemmas.List.{take_rest}
use Rattle.ring_service.proofs.Steps.{end_found, end_more, end_none}
use Rattle.ring_service.proofs.commands.end_of_line.Goals as goal

pub returns-then-byte-eq10 : goal.returns-then-byte-eq10
returns-then-byte-eq10 c = rw take_rest (sym c.loop-i.invariant ∙ end_found c.args.bytes.now c.loop-i.i c.loop-i-test.true c.if-byte-eq10.true)

pub loop-i-preserved : goal.loop-i-preserved
loop-i-preserved c = end_more c.args.bytes.now c.loop-i.i c.loop-i-test.true c.if-byte-eq10.false ∙ c.loop-i.invariant

pub returns : goal.returns
returns c = sym c.loop-i.invariant ∙ end_none c.args.bytes.now c.loop-i.i c.loop-i-test.false
