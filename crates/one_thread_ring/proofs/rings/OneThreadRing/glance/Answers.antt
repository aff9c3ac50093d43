use Rattle.one_thread_ring.proofs.rings.OneThreadRing.glance.Goals as goal

pub returns : goal.returns
returns g c = rw (← c.self.view_is) c.survey.ensures.is
