use Rattle.ring_model.specs.History.{opening}
use Rattle.wrong_shared_bodies.proofs.Blocks.{piece_seen}
use Rattle.wrong_shared_bodies.proofs.groups.group_that_is_shown_in_pieces.Goals as goal

pub returns : goal.returns
returns g c = record {
  wrong = λ p. piece_seen g.R.Resource.works (opening g.N.Name.start g.R.Resource.first) _ _ _ _ _ _ c.requires.rising c.requires.some c.requires.leaves_out c.in_ok-receipt.ensures.told p;
}
