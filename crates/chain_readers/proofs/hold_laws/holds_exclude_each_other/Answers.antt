use Rattle.chain_readers.proofs.Excluding.{holds_apart, signs_rise}
use Rattle.chain_readers.proofs.ChainPlaces.{chain_holds_apart}
use Rattle.chain_readers.proofs.hold_laws.holds_exclude_each_other.Goals as goal

pub returns : goal.returns
returns c = record { exclude = holds_apart; signs = signs_rise; chains = chain_holds_apart }
