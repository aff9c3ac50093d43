use Rattle.std.proofs.Common.{arith, sym, ◌∙◌}
use Rattle.ring_lanes.proofs.Words.{within_mask, first_half}
use Rattle.ring_lanes.proofs.kernels.half_word.Goals as goal

pub returns-then-n-base-ge32 : goal.returns-then-n-base-ge32
returns-then-n-base-ge32 g c = c.hits.ensures ∙ sym (within_mask (g.P.Probe.size c.args.p.now) (g.P.Probe.hit c.args.p.now) c.args.base 32 (omega arith))

pub returns-then-n-ge33 : goal.returns-then-n-ge33
returns-then-n-ge33 g c =
    rw c.if-base-eq0.true
    (first_half (g.P.Probe.size c.args.p.now) (g.P.Probe.hit c.args.p.now) c.hits-then-n-ge33.result c.first_bit.result (omega arith) c.hits-then-n-ge33.ensures c.first_bit.ensures)
