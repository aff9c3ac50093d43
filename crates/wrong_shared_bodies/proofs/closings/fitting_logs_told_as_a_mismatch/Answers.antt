use Rattle.std.proofs.Common.{refl}
use Rattle.ring_model.specs.History.{opening}
use Rattle.wrong_shared_bodies.proofs.Closed.{told_fits}
use Rattle.wrong_shared_bodies.proofs.closings.fitting_logs_told_as_a_mismatch.Goals as goal

pub returns : goal.returns
returns g c = record {
  wrong = λ p. p refl (told_fits g.R.Resource.works (opening g.N.Name.start g.R.Resource.first) _ c.in-Ok.closed.logs.items c.args.seats.items c.in-Ok.ensures.logs.2 c.in-Ok.ensures.fits);
}
