-- The lines that bring locks by any name back: their holds, and the clients that wait for them (this
-- project's own).
use Rattle.std.specs.Prelude.{ℕ, List, [], ◌∷◌, ◌++◌, Option, None, Some, option_map}
use Rattle.held_locks.specs.Kept.{LockView}
use Rattle.lock_names.specs.Names.{Bound, told_holder}
use Rattle.lock_names.specs.Kept.{NamedView}
use Rattle.name_service.specs.declared.service.NameService.{NameService}
use Rattle.lock_journal.specs.State.{hold_lines, wait_lines}

-- the line of the hold of a ring that has a name, with the name's token; those of its waiting clients
abbrev pub hold_of_ring : Option Bound → LockView → List (List ℕ)
hold_of_ring None v = []
hold_of_ring (Some b) v = hold_lines b.name (option_map (told_holder b) v.holder)

abbrev pub waits_of_ring : Option Bound → LockView → List (List ℕ)
waits_of_ring None v = []
waits_of_ring (Some b) v = wait_lines b.name v.queue

-- those of all rings
abbrev pub name_holds : List (Option Bound) → List LockView → List (List ℕ)
name_holds [] vs = []
name_holds (o ∷ os) [] = []
name_holds (o ∷ os) (v ∷ vs) = hold_of_ring o v ++ name_holds os vs

abbrev pub name_waits : List (Option Bound) → List LockView → List (List ℕ)
name_waits [] vs = []
name_waits (o ∷ os) [] = []
name_waits (o ∷ os) (v ∷ vs) = waits_of_ring o v ++ name_waits os vs

-- first the holds, ring by ring, and then those who wait, ring by ring and in their order
abbrev pub name_lines : NamedView → List (List ℕ)
name_lines v = name_holds v.names v.locks ++ name_waits v.names v.locks

abbrev pub name_state_lines : NameService → List (List ℕ)
name_state_lines s = name_lines s.segment.named
