use Rattle.std.proofs.Common.{arith, sym, ◌∙◌}
use Rattle.ring_lanes.proofs.Blocks.{one_is_privileged}
use Rattle.ring_lanes.proofs.Meaning.{first_is_zero, first_is, privileged_here}
use Rattle.ring_lanes.proofs.wide_first.Goals as goal

pub returns-then-is_hit-clause-least : goal.returns-then-is_hit-clause-least
returns-then-is_hit-clause-least c = first_is_zero c.args.s.now (omega arith) (sym c.is_hit.ensures ∙ c.if-is_hit.true)

pub returns-then-is_hit-clause-privileged : goal.returns-then-is_hit-clause-privileged
returns-then-is_hit-clause-privileged c = privileged_here c.args.s.now 0 (sym c.is_hit.ensures ∙ c.if-is_hit.true)

pub returns-else-is_hit : goal.returns-else-is_hit
returns-else-is_hit c =
    let s = c.args.s.now in
    let r = c.first_hit.result in
    let first = sym c.is_hit.ensures ∙ c.if-is_hit.false in
    let within = one_is_privileged s r (omega arith) first c.first_hit.ensures.high c.first_hit.ensures.before in
    let here = c.first_hit.ensures.here within in
    record { least = first_is s r within first c.first_hit.ensures.before here; within = within; privileged = privileged_here s r here }
