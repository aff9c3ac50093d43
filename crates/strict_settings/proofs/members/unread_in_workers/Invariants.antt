use Rattle.std.proofs.Common.{◌≡◌, drop}
use Rattle.json.specs.Value.{items_view}
use Rattle.strict_settings.specs.Unread.{unread_in_items, unread_in_seat}
use Rattle.strict_settings.proofs.members.unread_in_workers.Given as goal

abbrev pub invariant-loop-seat : goal.invariant-loop-seat
invariant-loop-seat l = unread_in_items unread_in_seat (items_view l.seat-items) ≡ unread_in_items unread_in_seat (items_view (drop l.seat-index l.seat-items))
