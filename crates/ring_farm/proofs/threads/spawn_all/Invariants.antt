use Rattle.std.proofs.Common.{◌≡◌, ◌≤◌, true, length, map, vec_len, vec_capacity}
use Rattle.ring_farm.specs.Plans.{Pairs}
use Rattle.ring_farm.specs.Promises.{IsPromised}
use Rattle.ring_farm.proofs.threads.spawn_all.Given as goal

abbrev pub invariant-loop-seat : goal.invariant-loop-seat
invariant-loop-seat g l =
    (l.i ≡ length l.yielded) × (vec_len l.handles ≤ l.i) × (vec_len l.fn.seats ≤ vec_capacity l.handles)
    × (l.all ≡ true → (vec_len l.handles ≡ l.i) × Pairs (IsPromised l.driven.number) l.plans.items (map (λ h. h.promise) l.handles.items))
