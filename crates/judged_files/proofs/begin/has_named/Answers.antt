use Rattle.std.proofs.Common.{length, sym, ◌∙◌}
use Rattle.std.proofs.lemmas.Bool.{eqb-true}
use Rattle.judged_files.proofs.Reading.{named_here, named_on, named_none}
use Rattle.judged_files.proofs.begin.has_named.Goals as goal

pub returns-then-is_whole_remark : goal.returns-then-is_whole_remark
returns-then-is_whole_remark c = sym (named_here c.loop-rest.rest.now c.split_line.result.0.now c.split_line.result.1.now c.split_line.ensures.lines (sym c.is_whole_remark.ensures ∙ c.if-is_whole_remark.true)) ∙ c.loop-rest.invariant

pub loop-rest-preserved : goal.loop-rest-preserved
loop-rest-preserved c = sym (named_on c.loop-rest.rest.now c.split_line.result.0.now c.split_line.result.1.now c.split_line.ensures.lines (sym c.is_whole_remark.ensures ∙ c.if-is_whole_remark.false)) ∙ c.loop-rest.invariant

pub returns : goal.returns
returns c = sym (named_none c.loop-rest.rest.now (eqb-true (length c.loop-rest.rest.now) 0 (sym c.is_empty.ensures ∙ c.loop-rest-test.false))) ∙ c.loop-rest.invariant
