use Rattle.std.proofs.Common.{◌≡◌, take}
use Rattle.ring_farm.specs.Plans.{part}
use Rattle.farm_in_turn.proofs.parts.Part.of.Given as goal

abbrev pub invariant-loop-action : goal.invariant-loop-action
invariant-loop-action l = l.actions.items ≡ part l.ring (take l.action-index l.plan.actions.items)
