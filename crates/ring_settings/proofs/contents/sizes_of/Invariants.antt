use Rattle.std.proofs.Common.{◌≡◌, map, take}
use Rattle.ring_settings.specs.Contents.{sizes_of}
use Rattle.ring_settings.specs.Views.{ring_data}
use Rattle.ring_settings.proofs.contents.sizes_of.Given as goal

abbrev pub invariant-loop-ring : goal.invariant-loop-ring
invariant-loop-ring l = l.sizes.items ≡ sizes_of (map ring_data (take l.ring-index l.rings))
