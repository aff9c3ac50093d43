use Rattle.std.proofs.Common.{ℕ, ◌≡◌, ◌*◌, ◌<◌, get_or}
use Rattle.ring_lanes.specs.Hits.{mask_from, within}
use Rattle.ring_lanes.proofs.kernels.write_hits.Given as goal

abbrev pub invariant-loop-w : goal.invariant-loop-w
invariant-loop-w g l = (k : ℕ) → k < l.w → get_or l.out k 0 ≡ mask_from (within (g.P.Probe.size l.p) (g.P.Probe.hit l.p)) (64 * k) 64
