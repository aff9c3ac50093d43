use Rattle.std.proofs.Common.{◌<◌, All, take}
use Rattle.ring_shared.proofs.closing.all_given.Given as goal

abbrev pub invariant-loop-seat : goal.invariant-loop-seat
invariant-loop-seat g l = All (λ s. s.number < g.N.Name.seats) (take l.seat-index l.seats)
