use Rattle.std.proofs.Common.{◌≡◌, drop}
use Rattle.serde_json.specs.View.{items_view}
use Rattle.ring_settings.specs.Scripts.{script_entry}
use Rattle.ring_settings.specs.Walk.{each_from}
use Rattle.ring_settings.proofs.Each.{with_rest}
use Rattle.ring_settings.proofs.scripts.read_actions.Given as goal

abbrev pub invariant-loop-place : goal.invariant-loop-place
invariant-loop-place l =
    each_from (script_entry l.sizes l.seat) 0 (items_view l.list)
    ≡ with_rest l.actions.items (each_from (script_entry l.sizes l.seat) l.place (items_view (drop l.place l.list)))
