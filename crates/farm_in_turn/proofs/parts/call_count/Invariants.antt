use Rattle.std.proofs.Common.{◌≡◌, ◌≤◌, ◌*◌, take}
use Rattle.ring_settings.specs.Limits.{action_limit}
use Rattle.farm_in_turn.specs.Refusals.{call_count}
use Rattle.farm_in_turn.proofs.parts.call_count.Given as goal

abbrev pub invariant-loop-part : goal.invariant-loop-part
invariant-loop-part l = (l.count ≡ call_count (take l.part-index l.parts)) × (l.count ≤ l.part-index * action_limit)
