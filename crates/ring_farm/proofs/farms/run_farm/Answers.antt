use Rattle.std.proofs.Common.{◌≡◌, length, arith}
use Rattle.ring_farm.proofs.Refusals.{ok_then}
use Rattle.ring_farm.proofs.Headlines.{farm_of}
use Rattle.ring_farm.proofs.Lawful.{farms_are_lawful}
use Rattle.ring_farm.proofs.farms.run_farm.Goals as goal

pub returns : goal.returns
returns g c =
    let results = c.in-Ok-run_rings.results in
    let long : length results.items ≡ length c.args.settings.now.rings = omega (arith, c.in-Ok-run_rings.ensures.count, results.ok) in
    let each = c.in-Ok-run_rings.ensures.each in
    record {
      headline = ok_then _ _ c.collect.result (λ o is. farm_of c.args.settings.now results.items o c.ring_count.ensures.settings long each is) c.collect.ensures.ok;
      lawful = ok_then _ _ c.collect.result
          (λ o is. farms_are_lawful c.args.settings.now o (farm_of c.args.settings.now results.items o c.ring_count.ensures.settings long each is)) c.collect.ensures.ok;
    }
