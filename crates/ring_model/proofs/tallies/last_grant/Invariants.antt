use Rattle.std.proofs.Common.{◌≤◌, length, take}
use Rattle.ring_model.proofs.Tallied.{IsLastGrant}
use Rattle.ring_model.proofs.tallies.last_grant.Given as goal

abbrev pub invariant-loop-left : goal.invariant-loop-left
invariant-loop-left l = record { few : l.left ≤ length l.events; last : IsLastGrant (take l.left l.events) l.events }

abbrev pub decreases-loop-left : goal.decreases-loop-left
decreases-loop-left l = l.left
