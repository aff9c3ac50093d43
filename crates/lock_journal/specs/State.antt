-- The lines that bring locks back: their holds, and the clients that wait for them (this project's
-- own).
use Rattle.std.specs.Prelude.{ℕ, List, Option, None, Some, ◌+◌, [], ◌∷◌, ◌++◌, map, codes}
use Rattle.text_lines.specs.Spelling.{spaced, ended}
use Rattle.held_locks.specs.declared.answers.Holder.{Holder}
use Rattle.held_locks.specs.declared.answers.Waiter.{Waiter}
use Rattle.held_locks.specs.Kept.{LockView}
use Rattle.lock_protocol.specs.Names.{Names, name_of, name_spaced}

-- the line of a hold: the lock's name, the token, and the client that holds; none if nobody does
abbrev pub hold_line : List ℕ → Holder → List ℕ
hold_line name h = codes "hold " ++ (name_spaced name ++ (spaced h.token ++ ended h.client))

abbrev pub hold_lines : List ℕ → Option Holder → List (List ℕ)
hold_lines name None = []
hold_lines name (Some h) = hold_line name h ∷ []

-- the line with which a client that waits asked for the lock; and those of its whole line
abbrev pub wait_line : List ℕ → Waiter → List ℕ
wait_line name w = spaced w.client ++ (codes "acquire " ++ (name_spaced name ++ ended w.label))

abbrev pub wait_lines : List ℕ → List Waiter → List (List ℕ)
wait_lines name line = map (wait_line name) line

-- those of all locks, of which the first has this number
abbrev pub holds_from : Names → ℕ → List LockView → List (List ℕ)
holds_from names lock [] = []
holds_from names lock (v ∷ vs) =
    hold_lines (name_of names lock) v.holder ++ holds_from names (lock + 1) vs

abbrev pub waits_from : Names → ℕ → List LockView → List (List ℕ)
waits_from names lock [] = []
waits_from names lock (v ∷ vs) =
    wait_lines (name_of names lock) v.queue ++ waits_from names (lock + 1) vs

-- first the holds, lock by lock, and then those who wait, lock by lock and in their order
abbrev pub lines_of : Names → List LockView → List (List ℕ)
lines_of names locks = holds_from names 0 locks ++ waits_from names 0 locks
