-- The base of a segment of a ring's history, which is what came before it, and the segment's numbers
-- counted with it (this project's own). A segment counts by itself: it begins with no events, no
-- grants and an empty till.
use Rattle.std.specs.Prelude.{ℕ, ◌+◌, ◌-◌, ◌^◌, ◌<◌, ◌≤◌, Bool, cond, ◌==◌, List, length, take, map}
use Rattle.ring_model.specs.Limits.{event_limit}
use Rattle.ring_model.specs.Ring.{Ring}
use Rattle.ring_model.specs.History.{State, opening, after}
use Rattle.ring_model.specs.Resources.{till, add_order}
use Rattle.ring_model.specs.Replay.{till_state}
use Rattle.ring_model.specs.Surveys.{granted_count, corrupted_count, calm}
use Rattle.ring_model.specs.declared.events.Reply.{Reply}
use Rattle.ring_model.specs.declared.events.Reply.TheVariants.{Granted, NotPrivileged, Corrupted}
use Rattle.ring_model.specs.declared.events.Event.{Event}
use Rattle.ring_model.specs.declared.events.Receipt.{Receipt}
use Rattle.ring_model.specs.declared.events.Survey.{Survey}
use Rattle.ring_model.specs.declared.events.Entry.{Entry}
use Rattle.ring_model.specs.declared.events.Entry.TheVariants as entry
use Rattle.ring_model.specs.declared.bases.Base.{Base}

-- nothing came before
abbrev pub no_base : Base
no_base = record { events = 0; grants = 0; amount = 0; calm = 0 }

-- a base after which a segment has room: each of its numbers, shifted, has 64 bits
pub record IsBase (b : Base) : Type 0 where
  pub room : b.events + event_limit < 2 ^ 64
  pub grants : b.grants ≤ b.events
  pub calm : b.calm ≤ b.grants

-- an amount that the till can hold
abbrev pub IsAmount : ℕ → Type 0
IsAmount amount = amount ≤ 2 ^ 64 - 1

-- the state of the one-thread ring after a base
abbrev pub state_from : Base → Ring → State ℕ
state_from b r = till_state r b.amount b.grants

-- To shift is to count from the first event of all. A shifted reply: a grant's number is more by
-- the grants before, its result by the amount before, up to the most that the till can hold.
abbrev pub shifted_reply : Base → Reply → Reply
shifted_reply b (Granted number result) = Granted (b.grants + number) (add_order b.amount result)
shifted_reply b NotPrivileged = NotPrivileged
shifted_reply b (Corrupted old) = Corrupted old

-- an event and events, shifted
abbrev pub shifted_event : Base → Event → Event
shifted_event b e = record { seat = e.seat; op = e.op; reply = shifted_reply b e.reply }

abbrev pub shifted : Base → List Event → List Event
shifted b h = map (λ (e : Event). shifted_event b e) h

-- no event is a corruption
abbrev pub is_quiet : List Event → Bool
is_quiet h = corrupted_count h == 0

-- a calm, shifted: the calm before the segment counts as long as no corruption has come in it
abbrev pub shifted_calm : Base → Bool → ℕ → ℕ
shifted_calm b quiet calm = cond quiet (b.calm + calm) calm

-- a survey, shifted, at a place up to which the segment is quiet, or is not
abbrev pub shifted_survey : Base → Bool → Survey → Survey
shifted_survey b quiet s = record {
  position = b.events + s.position;
  privileged = s.privileged;
  first = s.first;
  calm = shifted_calm b quiet s.calm;
  rest = s.rest;
}

-- a receipt, shifted
abbrev pub shifted_receipt : Base → Receipt → Receipt
shifted_receipt b r = record {
  position = b.events + r.position;
  event = shifted_event b r.event;
}

-- an entry of a client's log of a segment with the events h, shifted
abbrev pub shifted_entry : Base → List Event → Entry → Entry
shifted_entry b h (entry.Receipt r) = entry.Receipt (shifted_receipt b r)
shifted_entry b h (entry.Survey s) =
    entry.Survey (shifted_survey b (is_quiet (take s.position h)) s)

-- the base after a segment: its own base, and what the segment adds
abbrev pub base_after : Base → Ring → List Event → Base
base_after b r h = record {
  events = b.events + length h;
  grants = b.grants + granted_count h;
  amount = add_order b.amount (after till (opening r 0) h).content;
  calm = shifted_calm b (is_quiet h) (calm h);
}
