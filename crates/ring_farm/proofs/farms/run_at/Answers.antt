use Rattle.ring_settings.specs.Contents.{sizes_of}
use Rattle.ring_farm.proofs.Possible.{all_possible}
use Rattle.ring_farm.proofs.farms.run_at.Goals as goal

pub run_ring-requires-clause-possible : goal.run_ring-requires-clause-possible
run_ring-requires-clause-possible g c κs within =
    all_possible (sizes_of c.args.settings.now.rings) c.in_ok-book.book.start c.args.ring c.args.plans.now.items c.in_ok-book.ensures.size c.requires.fits
