use Rattle.std.proofs.Common.{◌≡◌, drop}
use Rattle.json.specs.Value.{members_view}
use Rattle.strict_settings.specs.Unread.{has_member}
use Rattle.strict_settings.proofs.members.has_member.Given as goal

abbrev pub invariant-loop-member : goal.invariant-loop-member
invariant-loop-member l = has_member l.name (members_view l.members) ≡ has_member l.name (members_view (drop l.member-index l.members))
