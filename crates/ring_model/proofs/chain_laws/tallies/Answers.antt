use Rattle.ring_model.proofs.Tallied.{tallies_are_right, next_bases_are_right, bases_have_room}
use Rattle.ring_model.proofs.chain_laws.tallies.Goals as goal

pub returns-clause-right : goal.returns-clause-right
returns-clause-right c = tallies_are_right

pub returns-clause-next : goal.returns-clause-next
returns-clause-next c = next_bases_are_right

pub returns-clause-room : goal.returns-clause-room
returns-clause-room c = bases_have_room
