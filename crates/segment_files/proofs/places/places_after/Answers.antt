use Rattle.segment_files.specs.Files.{IsShort}
use Rattle.segment_files.specs.Replays.{IsReplayed}
use Rattle.segment_files.proofs.PlaceLists.{all_at}
use Rattle.segment_files.proofs.places.places_after.Goals as goal

pub place_after-requires-clause-short : goal.place_after-requires-clause-short
place_after-requires-clause-short c = all_at IsShort c.args.rings.now c.loop-i.i c.index-rings-i.result c.loop-i-test.true c.index-rings-i.is c.requires.short

pub place_after-requires-clause-right : goal.place_after-requires-clause-right
place_after-requires-clause-right c = all_at IsReplayed c.args.rings.now c.loop-i.i c.index-rings-i.result c.loop-i-test.true c.index-rings-i.is c.requires.right
