use Rattle.std.proofs.Common.{◌<◌, ◌∙◌, sym, arith}
use Rattle.ring_check.proofs.OpenRuns.{left_told}
use Rattle.ring_check.proofs.group_lines.left_after.Goals as goal

pub returns-else-place-eq0 : goal.returns-else-place-eq0
returns-else-place-eq0 c =
    let some : 0 < c.args.place = omega arith in
    c.left_of.ensures ∙ sym (left_told c.args.events.now c.args.place _ some c.requires)
