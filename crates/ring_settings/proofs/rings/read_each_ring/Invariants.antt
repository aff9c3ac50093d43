use Rattle.std.proofs.Common.{◌≡◌, drop, map}
use Rattle.serde_json.specs.View.{items_view}
use Rattle.ring_settings.specs.Rings.{ring_from}
use Rattle.ring_settings.specs.Views.{ring_data}
use Rattle.ring_settings.specs.Walk.{each_from}
use Rattle.ring_settings.proofs.Each.{with_rest}
use Rattle.ring_settings.proofs.rings.read_each_ring.Given as goal

abbrev pub invariant-loop-place : goal.invariant-loop-place
invariant-loop-place l =
    each_from ring_from 0 (items_view l.list) ≡ with_rest (map ring_data l.rings.items) (each_from ring_from l.place (items_view (drop l.place l.list)))
