use Rattle.std.proofs.lemmas.List.{take_rest}
use Rattle.text_lines.proofs.Writing.{wrote_more}
use Rattle.text_lines.proofs.write.put.Goals as goal

pub loop-rest-preserved : goal.loop-rest-preserved
loop-rest-preserved g c = rw take_rest (wrote_more _ _ _ c.args.bytes.now c.loop-rest.rest.now c.in-Ok.n c.loop-rest.invariant c.in-Ok.ensures.bytes)
