use Rattle.std.proofs.Common.{◌≡◌, drop}
use Rattle.json.specs.Value.{members_view}
use Rattle.strict_settings.specs.Unread.{unread_among, top_names, unread_in_top}
use Rattle.strict_settings.proofs.members.unread_at_top.Given as goal

abbrev pub invariant-loop-i : goal.invariant-loop-i
invariant-loop-i l = unread_among top_names unread_in_top (members_view l.members) ≡ unread_among top_names unread_in_top (members_view (drop l.i l.members))
