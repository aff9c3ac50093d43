-- The history that a journal records: its start, and after that the calls, each at its ring
-- (this project's own).
use Rattle.std.specs.Prelude.{ℕ, zero, suc, ◌+◌, nat_lt, ◌==◌, not, cond, Bool, false, List, [], ◌∷◌, ◌++◌, length, map}
use Rattle.std.specs.List.{filter, list_all}
use Rattle.ring_model.specs.Limits.{seat_limit}
use Rattle.saved_history.specs.declared.saved.SavedEvent.{SavedEvent}
use Rattle.saved_history.specs.declared.saved.SavedEvent.TheVariants.{Granted, Refused, Member, Corrupted}
use Rattle.saved_history.specs.declared.saved.SavedSurvey.{SavedSurvey}
use Rattle.saved_history.specs.Content.{Block, Content}
use Rattle.journal.specs.declared.calls.Call.{Call}
use Rattle.journal.specs.declared.calls.Call.TheVariants.{Event, Survey}
use Rattle.journal.specs.declared.calls.JournalLine.{JournalLine}

-- ---- whole groups

-- an event is a member of a group with more members after it
abbrev pub event_is_open : SavedEvent → Bool
event_is_open (Granted seat machine order number answer) = false
event_is_open (Refused seat machine order) = false
event_is_open (Member seat machine order left number answer) = nat_lt 0 left
event_is_open (Corrupted seat machine value old) = false

-- a call is one
abbrev pub is_open : Call → Bool
is_open (Event e) = event_is_open e
is_open (Survey s) = false

-- each of the calls is one
abbrev pub are_open : List JournalLine → Bool
are_open rs = list_all (λ (r : JournalLine). is_open r.call) rs

-- the calls without the open members at their end: a group counts only if it is whole
abbrev pub whole : List JournalLine → List JournalLine
whole [] = []
whole (r ∷ rs) = cond (are_open (r ∷ rs)) [] (r ∷ whole rs)

-- ---- the rings' blocks

-- a block with one call more, after those that it has
abbrev pub with_call : Block → Call → Block
with_call b (Event e) = record b { events = b.events ++ e ∷ []; events_said = length b.events + 1 }
with_call b (Survey s) = record b { surveys = b.surveys ++ s ∷ [] }

-- the blocks with one call more of the ring of this number
abbrev pub with_call_at : List Block → ℕ → Call → List Block
with_call_at [] ring call = []
with_call_at (b ∷ bs) zero call = with_call b call ∷ bs
with_call_at (b ∷ bs) (suc ring) call = b ∷ with_call_at bs ring call

-- the blocks with these calls more, one after the other
abbrev pub with_calls : List Block → List JournalLine → List Block
with_calls bs [] = bs
with_calls bs (r ∷ rs) = with_calls (with_call_at bs r.ring r.call) rs

-- ---- the order of the surveys: seat by seat, and each seat's as they were recorded

-- a survey of this seat
abbrev pub is_of : ℕ → SavedSurvey → Bool
is_of seat s = s.seat == seat

-- those of n seats from this one on, seat by seat, and then the rest
unfoldable pub by_seats : ℕ → ℕ → List SavedSurvey → List SavedSurvey
by_seats seat zero ss = ss
by_seats seat (suc left) ss =
    filter (is_of seat) ss ++ by_seats (seat + 1) left (filter (λ s. not (is_of seat s)) ss)

-- a block with its surveys in this order, as saved texts have them
abbrev pub in_order : Block → Block
in_order b = record b { surveys = by_seats 0 seat_limit b.surveys }

-- ---- the history

-- the history of saved rings and the calls after them
abbrev pub content_after : Content → List JournalLine → Content
content_after began calls =
    record began { rings = map in_order (with_calls began.rings (whole calls)) }
