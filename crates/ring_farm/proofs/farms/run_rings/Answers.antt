use Rattle.std.proofs.Common.{◌≡◌, length, arith}
use Rattle.ring_farm.proofs.Refusals.{ok_then}
use Rattle.ring_farm.proofs.Headlines.{each_done}
use Rattle.ring_farm.proofs.Lawful.{each_lawful}
use Rattle.ring_farm.proofs.farms.run_rings.Goals as goal

pub returns-clause-each : goal.returns-clause-each
returns-clause-each g c =
    let count = c.in_ok-plans.ensures.count in
    let same : length c.in_ok-plans.plans.items ≡ length c.args.settings.now.seats = omega arith in
    ok_then _ _ c.run_each.result
    (λ v each. each_done c.in_ok-plans.plans.items c.args.settings.now v.items (λ seat p within. c.in_ok-plans.ensures.plan seat p (omega arith)) same each)
    c.run_each.ensures.each

pub returns-clause-lawful : goal.returns-clause-lawful
returns-clause-lawful g c =
    let count = c.in_ok-plans.ensures.count in
    let same : length c.in_ok-plans.plans.items ≡ length c.args.settings.now.seats = omega arith in
    ok_then _ _ c.run_each.result
    (λ v each. each_lawful c.args.settings.now v.items c.run_each.ensures.settings
    (each_done c.in_ok-plans.plans.items c.args.settings.now v.items (λ seat p within. c.in_ok-plans.ensures.plan seat p (omega arith)) same each))
    c.run_each.ensures.each
