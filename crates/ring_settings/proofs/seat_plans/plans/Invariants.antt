use Rattle.std.proofs.Common.{◌≡◌, map}
use Rattle.std.specs.List.{range_with_len}
use Rattle.ring_settings.specs.Contents.{plan_of}
use Rattle.ring_settings.specs.Views.{plan_actions}
use Rattle.ring_settings.proofs.seat_plans.plans.Given as goal

abbrev pub invariant-loop-seat : goal.invariant-loop-seat
invariant-loop-seat l = map plan_actions l.plans.items ≡ map (plan_of l.settings) (range_with_len 0 l.seat)
