use Rattle.ring_check.proofs.Upgrades.{upgrade_is_legal}
use Rattle.ring_check.proofs.laws.upgrade_is_legal.Goals as goal

pub returns : goal.returns
returns c = upgrade_is_legal
