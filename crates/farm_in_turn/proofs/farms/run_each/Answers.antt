use Rattle.std.proofs.Common.{◌+◌, List, length, ap, sym, ◌∙◌, subst, arith}
use Rattle.std.proofs.lemmas.List.{length_push}
use Rattle.ring_logs.specs.declared.outcomes.RingOutcome.{RingOutcome}
use Rattle.farm_in_turn.specs.Rings.{AreRunsInTurn}
use Rattle.farm_in_turn.proofs.Farming.{runs_more}
use Rattle.farm_in_turn.proofs.farms.run_each.Goals as goal

pub loop-ring-preserved : goal.loop-ring-preserved
loop-ring-preserved c =
    let count = c.loop-ring.invariant.count in
    let items = c.push_reserved.ensures.items in
    let longer = length_push c.loop-ring.rings.items c.in-Ok-run_ring.outcome in
    record {
      count = ap length items ∙ (longer ∙ ap (λ n. n + 1) count);
      room = let room = c.loop-ring.invariant.room in omega (arith, c.push_reserved.ensures.capacity);
      runs = subst (λ (os : List RingOutcome). AreRunsInTurn c.args.settings.now c.args.plans.now c.args.seed os) (sym items)
          (runs_more c.args.settings.now c.args.plans.now c.args.seed c.loop-ring.ring c.loop-ring.rings.items c.in-Ok-run_ring.outcome (sym count) c.loop-ring.invariant.runs c.in-Ok-run_ring.ensures.ok);
    }
