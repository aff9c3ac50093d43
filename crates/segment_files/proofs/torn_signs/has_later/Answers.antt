use Rattle.std.proofs.Common.{length, sym, ◌∙◌}
use Rattle.std.proofs.lemmas.Bool.{eqb-true}
use Rattle.segment_files.specs.TornSigns.{can_follow}
use Rattle.segment_files.proofs.TornLines.{none_of_none}
use Rattle.segment_files.proofs.torn_signs.has_later.Goals as goal

pub returns : goal.returns
returns c =
    sym (none_of_none (can_follow c.args.reached.now c.args.most) c.loop-rest.rest.now (eqb-true (length c.loop-rest.rest.now) 0 (sym c.is_empty.ensures ∙ c.loop-rest-test.false)))
    ∙ c.loop-rest.invariant
