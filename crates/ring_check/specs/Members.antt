-- Which event may come next in a history, as a test (this project's own). The table of faults
-- computes by it, so it is here; its meaning is `MayCome` of `ring_model`, by the law
-- `members_as_defined`, and who believes that law need not read it.
use Rattle.std.specs.Prelude.{ℕ, zero, suc, ◌+◌, ◌==◌, nat_lt, nat_le, ◌&&◌, ◌||◌, cond, Bool, true, false, List, [], ◌∷◌, ◌++◌, length, map, slice_index, slice_index_or}
use Rattle.ring_model.specs.Groups.{left_of}
use Rattle.ring_model.specs.Replay.{machine_of}
use Rattle.ring_model.specs.Scanning.{opened}
use Rattle.ring_model.specs.declared.events.Op.{Op}
use Rattle.ring_model.specs.declared.events.Op.TheVariants.{Pass, Member, Corrupt}
use Rattle.ring_model.specs.declared.events.Event.{Event}

-- the members of the block that is open after some events, where these were open before them
abbrev pub run_behind : List Event → List Event → List Event
run_behind run [] = run
run_behind run (e ∷ es) = run_behind (opened (left_of e.op) (run ++ e ∷ [])) es

-- the members of the block that is open after a history, none outside blocks
abbrev pub run_of : List Event → List Event
run_of h = run_behind [] h

-- the machines that the events name
abbrev pub machines_of : List Event → List ℕ
machines_of h = map (λ (e : Event). machine_of e.op) h

-- the call is a member's of this order, with this many left
abbrev pub is_member_of : ℕ → ℕ → Op → Bool
is_member_of order left (Pass machine o) = false
is_member_of order left (Member machine o l) = (o == order) && (l == left)
is_member_of order left (Corrupt machine value) = false

-- a member with this many left continues its group: the last of the open ones is of its seat and
-- order, and has one more left
abbrev pub goes_on : List Event → ℕ → ℕ → ℕ → Bool
goes_on [] seat order left = true
goes_on (d ∷ []) seat order left = (d.seat == seat) && is_member_of order (left + 1) d.op
goes_on (c ∷ d ∷ es) seat order left = goes_on (d ∷ es) seat order left

-- the machines are x - 1 down to 0, and then falling ones below high that are at least low
abbrev pub are_in_turn : ℕ → ℕ → ℕ → List ℕ → Bool
are_in_turn low high zero [] = true
are_in_turn low high zero (m ∷ ms) = (nat_lt m high && nat_le low m) && are_in_turn low m zero ms
are_in_turn low high (suc x) [] = false
are_in_turn low high (suc x) (m ∷ ms) = (m == x) && are_in_turn low high x ms

-- the least machine that is left out by machines in the order of the moves: they begin with the one
-- below it and come so to machine 0, or have no machine 0
abbrev pub least_of : List ℕ → ℕ
least_of ms = cond (slice_index_or ms (slice_index ms 0) 1 == 0) (slice_index ms 0 + 1) 0

-- the machines, at least one, are in the order of the moves of a ring of n
-- machines, and leave one out
abbrev pub is_in_order : ℕ → List ℕ → Bool
is_in_order n ms = nat_lt (least_of ms) n && are_in_turn (suc (least_of ms)) n (least_of ms) ms

-- the call of this seat may come after these members of an open block: outside blocks each call by
-- itself, and a member of a group that leaves one out; inside a block its next member, and as the
-- last one the one that completes the order
abbrev pub call_may_come : ℕ → List Event → ℕ → Op → Bool
call_may_come n run seat (Pass machine order) = length run == 0
call_may_come n run seat (Member machine order left) =
    nat_lt (left + 1) n
    && (goes_on run seat order left
    && (nat_lt 0 left || is_in_order n (machines_of run ++ machine ∷ [])))
call_may_come n run seat (Corrupt machine value) = length run == 0

abbrev pub may_come : ℕ → List Event → Event → Bool
may_come n run e = call_may_come n run e.seat e.op
