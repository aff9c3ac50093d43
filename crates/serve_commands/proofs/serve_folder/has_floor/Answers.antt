use Rattle.std.proofs.Common.{length, sym, ◌∙◌}
use Rattle.std.proofs.lemmas.Bool.{eqb-true}
use Rattle.serve_commands.proofs.Floors.{floor_here, floor_on, floor_none}
use Rattle.serve_commands.proofs.serve_folder.has_floor.Goals as goal

pub returns-then-is_floor : goal.returns-then-is_floor
returns-then-is_floor c = sym (floor_here c.loop-rest.rest.now c.split_line.result.0.now c.split_line.result.1.now c.split_line.ensures.lines (sym c.is_floor.ensures ∙ c.if-is_floor.true)) ∙ c.loop-rest.invariant

pub loop-rest-preserved : goal.loop-rest-preserved
loop-rest-preserved c = sym (floor_on c.loop-rest.rest.now c.split_line.result.0.now c.split_line.result.1.now c.split_line.ensures.lines (sym c.is_floor.ensures ∙ c.if-is_floor.false)) ∙ c.loop-rest.invariant

pub returns : goal.returns
returns c = sym (floor_none c.loop-rest.rest.now (eqb-true (length c.loop-rest.rest.now) 0 (sym c.is_empty.ensures ∙ c.loop-rest-test.false))) ∙ c.loop-rest.invariant
