use Rattle.std.proofs.Common.{◌≡◌, ◌+◌, ◌-◌, ◌≤◌}
use Rattle.ring_lanes.specs.Hits.{mask_from, within}
use Rattle.ring_lanes.proofs.kernels.half_word.Given as goal

abbrev pub invariant-loop-k : goal.invariant-loop-k
invariant-loop-k g l = record { top : l.k ≤ 32; so_far : l.bits ≡ mask_from (within (g.P.Probe.size l.p) (g.P.Probe.hit l.p)) (l.base + l.k) (32 - l.k) }

abbrev pub decreases-loop-k : goal.decreases-loop-k
decreases-loop-k g l = l.k
