use Rattle.std.proofs.Common.{◌≡◌, drop, map}
use Rattle.json.specs.Value.{members_view}
use Rattle.strict_settings.specs.Unread.{unread_among, plain}
use Rattle.strict_settings.proofs.members.unread_among.Given as goal

abbrev pub invariant-loop-i : goal.invariant-loop-i
invariant-loop-i l =
    unread_among (map (λ name. name.now) l.names) plain (members_view l.members) ≡ unread_among (map (λ name. name.now) l.names) plain (members_view (drop l.i l.members))
