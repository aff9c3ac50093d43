use Rattle.std.proofs.Common.{◌≡◌, List, length, subst, arith}
use Rattle.ring_settings.specs.declared.actions.Plan.{Plan}
use Rattle.ring_farm.specs.declared.outcomes.Outcome.{Outcome}
use Rattle.ring_farm.proofs.Lawful.{farms_are_lawful}
use Rattle.farm_in_turn.specs.Rings.{AreRunsInTurn}
use Rattle.farm_in_turn.proofs.Farming.{headline, in_turn}
use Rattle.farm_in_turn.proofs.farms.run_in_turn.Goals as goal

pub returns-in-Ok-run_each-clause-headline : goal.returns-in-Ok-run_each-clause-headline
returns-in-Ok-run_each-clause-headline c =
    let o : Outcome = record { rings = c.in-Ok-run_each.rings } in
    let plans : List Plan = c.in-Ok.plans.items in
    let same = c.as_slice.ensures.value in
    let count = c.in-Ok.ensures.count in
    let seats : length plans ≡ length c.args.settings.now.seats = omega (arith, c.in-Ok.plans.ok.0) in
    let long : length c.in-Ok-run_each.rings.items ≡ length c.args.settings.now.rings = omega (arith, c.in-Ok-run_each.rings.ok.0, c.in-Ok-run_each.ensures.count) in
    let each = subst (λ (ps : List Plan). AreRunsInTurn c.args.settings.now ps c.args.seed c.in-Ok-run_each.rings.items) same c.in-Ok-run_each.ensures.each in
    headline c.args.settings.now plans c.args.seed o c.in-Ok-run_each.ensures.settings (λ seat p within. c.in-Ok.ensures.plan seat p (omega (arith, c.in-Ok.plans.ok.0))) seats long each

pub returns-in-Ok-run_each-clause-lawful : goal.returns-in-Ok-run_each-clause-lawful
returns-in-Ok-run_each-clause-lawful c = farms_are_lawful c.args.settings.now (record { rings = c.in-Ok-run_each.rings }) (returns-in-Ok-run_each-clause-headline c)

pub returns-in-Ok-run_each-clause-in_turn : goal.returns-in-Ok-run_each-clause-in_turn
returns-in-Ok-run_each-clause-in_turn c = in_turn c.args.settings.now c.as_slice.result.now c.args.seed (record { rings = c.in-Ok-run_each.rings }) c.in-Ok-run_each.ensures.each
