use Rattle.std.proofs.Common.{◌≡◌, ◌≤◌, map, Ok, vec_len, vec_capacity}
use Rattle.ring_farm.proofs.farms.collect.Given as goal

abbrev pub invariant-loop-result : goal.invariant-loop-result
invariant-loop-result l = (vec_len l.fn.results ≤ vec_capacity l.rings) × (l.yielded ≡ map (λ r. Ok r) l.rings.items)
