use Rattle.std.proofs.Common.{◌≡◌, ◌++◌, map}
use Rattle.saved_history.specs.Content.{block_of}
use Rattle.segment_files.specs.Files.{segments_of, place_after}
use Rattle.segment_files.specs.Chain.{place_in}
use Rattle.segment_files.proofs.PlaceLists.{segments_from}
use Rattle.segment_files.proofs.places.places_after.Given as goal

abbrev pub invariant-loop-i : goal.invariant-loop-i
invariant-loop-i l = map place_in l.found.items ++ map place_after (segments_from l.i l.bases l.rings) ≡ map place_after (segments_of l.bases (map block_of l.rings))
