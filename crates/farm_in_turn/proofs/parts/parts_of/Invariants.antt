use Rattle.std.proofs.Common.{◌≡◌, ◌≤◌, take, map, length, vec_capacity}
use Rattle.ring_farm.specs.Plans.{part}
use Rattle.ring_settings.specs.Views.{plan_actions}
use Rattle.farm_in_turn.proofs.parts.parts_of.Given as goal

abbrev pub invariant-loop-plan : goal.invariant-loop-plan
invariant-loop-plan l = record {
  parts : l.parts.items ≡ map (part l.ring) (map plan_actions (take l.plan-index l.plans));
  room : length l.plans ≤ vec_capacity l.parts;
}
