-- A roll of numbered tickets, and which of them the clients of a desk were given (this project's
-- own).
use Rattle.std.specs.Prelude.{ℕ, ◌+◌, ◌≤◌, ◌↔◌, ◌==◌, nat_lt, Bool, false, cond, List}
use Rattle.std.specs.List.{sum_by, count_by}
use Rattle.ring_model.specs.History.{Works}
use Rattle.ring_model.specs.declared.events.Reply.{Reply}
use Rattle.ring_model.specs.declared.events.Reply.TheVariants.{Granted, NotPrivileged, Corrupted}
use Rattle.ring_model.specs.declared.events.Entry.{Entry}
use Rattle.ring_model.specs.declared.events.Entry.TheVariants as entry
use Rattle.ring_shared.specs.Log.{Log}

-- a roll has this many tickets, numbered from 1
abbrev pub roll_size : ℕ
roll_size = 60

-- its content is how many tickets are gone: the work takes the next one and answers its number, or
-- 0 where none is left
abbrev pub roll : Works ℕ
roll = record {
  after = λ gone machine order. cond (nat_lt gone roll_size) (gone + 1) gone;
  answer = λ gone machine order. cond (nat_lt gone roll_size) (gone + 1) 0;
}

-- the reply hands out the ticket with this number
abbrev pub gives : ℕ → Reply → Bool
gives ticket (Granted number result) = result == ticket
gives ticket NotPrivileged = false
gives ticket (Corrupted old) = false

-- an entry of a log does where it is the receipt of such a reply
abbrev pub hands_out : ℕ → Entry → Bool
hands_out ticket (entry.Receipt r) = gives ticket r.event.reply
hands_out ticket (entry.Survey s) = false

-- how often the ticket was given to the client with this log
abbrev pub times_in : ℕ → List Entry → ℕ
times_in ticket log = count_by (hands_out ticket) log

-- how often it was given to all clients together
abbrev pub times_given : ℕ → List Log → ℕ
times_given ticket logs = sum_by (λ (l : Log). times_in ticket l.entries.items) logs

-- no ticket is given twice
abbrev pub NoneTwice : List Log → Type 0
NoneTwice logs = (ticket : ℕ) → 1 ≤ ticket → times_given ticket logs ≤ 1

-- the tickets of all clients together are just those that are gone from the roll
abbrev pub JustThoseGone : ℕ → List Log → Type 0
JustThoseGone gone logs = (ticket : ℕ) → 1 ≤ ticket → 1 ≤ times_given ticket logs ↔ ticket ≤ gone
