use Rattle.std.proofs.Common.{◌≡◌, drop}
use Rattle.serde_json.specs.View.{items_view}
use Rattle.ring_settings.specs.Rings.{start_entry}
use Rattle.ring_settings.specs.Walk.{each_from}
use Rattle.ring_settings.proofs.Each.{with_rest}
use Rattle.ring_settings.proofs.rings.read_numbers.Given as goal

abbrev pub invariant-loop-entry : goal.invariant-loop-entry
invariant-loop-entry l =
    each_from start_entry 0 (items_view l.list) ≡ with_rest l.numbers.items (each_from start_entry l.entry-index (items_view (drop l.entry-index l.list)))
