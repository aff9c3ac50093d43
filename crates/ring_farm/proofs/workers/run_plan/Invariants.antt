use Rattle.std.proofs.Common.{◌≡◌, ◌≤◌, take, length}
use Rattle.ring_farm.specs.Plans.{actions_of, planned}
use Rattle.ring_farm.proofs.workers.run_plan.Given as goal

abbrev pub invariant-loop-action : goal.invariant-loop-action
invariant-loop-action g l = (length l.seat.log ≤ l.action-index) × (l.seat.number ≡ l.fn.seat.number) × (actions_of l.number l.seat.log ≡ planned l.number (take l.action-index l.plan.actions.items))
