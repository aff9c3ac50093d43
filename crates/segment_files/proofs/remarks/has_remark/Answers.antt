use Rattle.std.proofs.Common.{length, sym, ◌∙◌}
use Rattle.std.proofs.lemmas.Bool.{eqb-true}
use Rattle.segment_files.proofs.RemarkSteps.{empty_any}
use Rattle.segment_files.proofs.remarks.has_remark.Goals as goal

pub returns : goal.returns
returns c = sym (empty_any c.loop-rest.rest.now (eqb-true (length c.loop-rest.rest.now) 0 (sym c.is_empty.ensures ∙ c.loop-rest-test.false))) ∙ c.loop-rest.invariant
