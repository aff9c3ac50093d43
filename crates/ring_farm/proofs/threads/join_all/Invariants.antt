use Rattle.std.proofs.Common.{◌≡◌, ◌≤◌, None, length, map, vec_len, vec_capacity}
use Rattle.ring_farm.specs.Plans.{Pairs}
use Rattle.ring_farm.specs.Promises.{DidAsPromised}
use Rattle.ring_farm.proofs.threads.join_all.Given as goal

abbrev pub invariant-loop-handle : goal.invariant-loop-handle
invariant-loop-handle g l =
    (vec_len l.seats ≡ length l.yielded) × (vec_len l.fn.handles ≤ vec_capacity l.seats)
    × (l.fault ≡ None → Pairs DidAsPromised (map (λ h. h.promise) l.yielded) l.seats.items)
