use Rattle.std.proofs.Common.{rules, arith, ◌≡◌}
use Rattle.std.proofs.lemmas.Grind.{common_steps}
use Rattle.std.proofs.lemmas.Option.{gets}
use Rattle.ring_settings.specs.Contents.{ring_at, IsSettings}
use Rattle.ring_settings.proofs.SizeLaws.{size_at_ring, ring_at_is}
use Rattle.ring_settings.proofs.contents.Settings.params.Goals as goal

pub returns-clause-in_sizes : goal.returns-clause-in_sizes
returns-clause-in_sizes c =
    let own : c.index.result.now.params ≡ (ring_at c.args.self.now c.args.ring).size = grind (arith, common_steps, gets) in
    rw (size_at_ring c.args.self.now c.args.ring) own

pub returns-clause-size : goal.returns-clause-size
returns-clause-size c =
    let settings : IsSettings c.args.self.now = search rules in
    (ring_at_is c.args.self.now c.args.ring settings c.requires).size
