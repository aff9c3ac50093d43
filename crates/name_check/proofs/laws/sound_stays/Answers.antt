use Rattle.name_check.proofs.Holding.{stays_sound}
use Rattle.name_check.proofs.Opening.{sound_begins, trust_ends}
use Rattle.name_check.proofs.laws.sound_stays.Goals as goal

pub returns-clause-begins : goal.returns-clause-begins
returns-clause-begins c = sound_begins

pub returns-clause-stays : goal.returns-clause-stays
returns-clause-stays c = stays_sound

pub returns-clause-known : goal.returns-clause-known
returns-clause-known c = trust_ends
