-- The tally of a segment: its replies, added up as they come (this project's own).
use Rattle.std.specs.Prelude.{◌+◌, ◌≤◌, true, false, List, [], ◌∷◌}
use Rattle.ring_model.specs.Limits.{event_limit}
use Rattle.ring_model.specs.Resources.{add_order}
use Rattle.ring_model.specs.declared.events.Reply.{Reply}
use Rattle.ring_model.specs.declared.events.Reply.TheVariants.{Granted, NotPrivileged, Corrupted}
use Rattle.ring_model.specs.declared.events.Event.{Event}
use Rattle.ring_model.specs.declared.events.Survey.{Survey}
use Rattle.ring_model.specs.declared.bases.Base.{Base}
use Rattle.ring_model.specs.declared.tallies.Tally.{Tally}
use Rattle.ring_model.specs.Bases.{shifted_calm}

-- the tally of no replies
abbrev pub empty_tally : Tally
empty_tally = record { grants = 0; amount = 0; quiet = true }

-- the tally with one reply more: the number and the result of the last grant, and whether no
-- corruption came
abbrev pub tally_with : Tally → Reply → Tally
tally_with t (Granted number result) = record {
  grants = number;
  amount = result;
  quiet = t.quiet;
}
tally_with t NotPrivileged = t
tally_with t (Corrupted old) = record { grants = t.grants; amount = t.amount; quiet = false }

-- the tally with the replies of these events more
abbrev pub tallied : Tally → List Event → Tally
tallied t [] = t
tallied t (e ∷ es) = tallied (tally_with t e.reply) es

-- a base with the tally of a segment after it, and with what the survey of the segment's end counts
abbrev pub base_with : Base → Tally → Survey → Base
base_with b t end = record {
  events = b.events + end.position;
  grants = b.grants + t.grants;
  amount = add_order b.amount t.amount;
  calm = shifted_calm b t.quiet end.calm;
}

-- the reply's number is one that a grant of a segment can have
abbrev pub IsInSegment : Reply → Type 0
IsInSegment (Granted number result) = number ≤ event_limit
IsInSegment NotPrivileged = Unit {0}
IsInSegment (Corrupted old) = Unit {0}
