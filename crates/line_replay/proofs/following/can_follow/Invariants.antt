use Rattle.std.proofs.Common.{length}
use Rattle.line_replay.specs.Following.{Follows, AtSomeLine}
use Rattle.line_replay.proofs.following.can_follow.Given as goal

abbrev pub invariant-lines : goal.invariant-lines
invariant-lines l =
    (AtSomeLine (Follows l.noted l.most) l.rest → AtSomeLine (Follows l.noted l.most) l.bytes)
    × (AtSomeLine (Follows l.noted l.most) l.bytes → AtSomeLine (Follows l.noted l.most) l.rest)

abbrev pub decreases-lines : goal.decreases-lines
decreases-lines l = length l.rest
