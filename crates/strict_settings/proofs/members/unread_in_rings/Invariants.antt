use Rattle.std.proofs.Common.{◌≡◌, drop}
use Rattle.json.specs.Value.{items_view}
use Rattle.strict_settings.specs.Unread.{unread_in_items, unread_in_ring}
use Rattle.strict_settings.proofs.members.unread_in_rings.Given as goal

abbrev pub invariant-loop-ring : goal.invariant-loop-ring
invariant-loop-ring l = unread_in_items unread_in_ring (items_view l.ring-items) ≡ unread_in_items unread_in_ring (items_view (drop l.ring-index l.ring-items))
