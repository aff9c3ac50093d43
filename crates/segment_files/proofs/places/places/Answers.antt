use Rattle.segment_files.specs.Files.{place_of}
use Rattle.segment_files.proofs.PlaceLists.{places_end}
use Rattle.segment_files.proofs.places.places.Goals as goal

pub returns : goal.returns
returns c = places_end place_of c.args.bases.now c.args.rings.now c.loop-i.i c.loop-i.found.items c.loop-i-test.false c.loop-i.invariant
