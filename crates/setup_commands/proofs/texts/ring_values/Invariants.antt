use Rattle.std.proofs.Common.{◌≡◌, map, take}
use Rattle.saved_history.specs.Content.{block_of}
use Rattle.serde_json.specs.View.{view}
use Rattle.setup_commands.specs.Settings.{ring_json, ring_in}
use Rattle.setup_commands.proofs.texts.ring_values.Given as goal

abbrev pub invariant-loop-ring : goal.invariant-loop-ring
invariant-loop-ring l = map view l.values.items ≡ map (λ ring. ring_json (ring_in (block_of ring))) (take l.ring-index l.rings)
