-- The commands, and the lines that they are (this project's own).
use Rattle.std.specs.Prelude.{◌≡◌, ◌≢◌, ℕ, ◌<◌, map, List, [], ◌∷◌, ◌++◌, length, codes, Option, Some, Result, Ok, Err}
use Rattle.std.specs.Option.{option_map}
use Rattle.std.specs.List.{AllByRecursion}
use Rattle.text_lines.specs.declared.fault.Stop.{Stop}
use Rattle.text_lines.specs.declared.fault.Stop.TheVariants as stops
use Rattle.text_lines.specs.LongNumbers.{number_spaced, number_ended, number_row, in_64_bits, in_32_bits}
use Rattle.ring_service.specs.declared.commands.Command.{Command as Read}
use Rattle.ring_service.specs.declared.commands.Command.TheVariants as reads

-- a command, with its numbers, which are of any size: those of a ring, a seat, a machine and an
-- order, twice; of a ring, a seat, an order and machines; of a ring, a seat, a machine and a value;
-- of a ring and a seat; of a ring; and with the name of a file
pub data Command : Type 0 where
  pass : ℕ → ℕ → ℕ → ℕ → Command
  try : ℕ → ℕ → ℕ → ℕ → Command
  group : ℕ → ℕ → ℕ → List ℕ → Command
  corrupt : ℕ → ℕ → ℕ → ℕ → Command
  survey : ℕ → ℕ → Command
  glance : ℕ → Command
  save : List ℕ → Command

-- the line of a command
abbrev pub command_line : Command → List ℕ
command_line (pass ring seat machine order) =
    codes "pass " ++ (number_spaced ring ++ (number_spaced seat ++ (number_spaced machine ++ number_ended order)))
command_line (try ring seat machine order) =
    codes "try " ++ (number_spaced ring ++ (number_spaced seat ++ (number_spaced machine ++ number_ended order)))
command_line (group ring seat order machines) =
    codes "group " ++ (number_spaced ring ++ (number_spaced seat ++ (number_spaced order ++ number_row machines)))
command_line (corrupt ring seat machine value) =
    codes "corrupt " ++ (number_spaced ring ++ (number_spaced seat ++ (number_spaced machine ++ number_ended value)))
command_line (survey ring seat) = codes "survey " ++ (number_spaced ring ++ number_ended seat)
command_line (glance ring) = codes "glance " ++ number_ended ring
command_line (save name) = codes "save " ++ (name ++ 10 ∷ [])

-- which commands have a line: a group has a machine at least, a name has a byte at least and no LF
abbrev pub HasLine : Command → Type 0
HasLine (pass ring seat machine order) = Unit {0}
HasLine (try ring seat machine order) = Unit {0}
HasLine (group ring seat order machines) = 0 < length machines
HasLine (corrupt ring seat machine value) = Unit {0}
HasLine (survey ring seat) = Unit {0}
HasLine (glance ring) = Unit {0}
HasLine (save name) = (0 < length name) × AllByRecursion (λ b. b ≢ 10) name

-- the line is that of the command
abbrev pub IsLineOf : Command → List ℕ → Type 0
IsLineOf command line = HasLine command × (line ≡ command_line command)

-- What the rings hear of a command, if its order is one of 64 bits: the numbers by which they know
-- rings, seats, machines and values. The name of a save is not theirs.
abbrev pub heard : Command → Option Command
heard (pass ring seat machine order) =
    option_map (λ n. pass (in_32_bits ring) (in_32_bits seat) (in_32_bits machine) n)
    (in_64_bits order)
heard (try ring seat machine order) =
    option_map (λ n. try (in_32_bits ring) (in_32_bits seat) (in_32_bits machine) n)
    (in_64_bits order)
heard (group ring seat order machines) =
    option_map (λ n. group (in_32_bits ring) (in_32_bits seat) n (map in_32_bits machines))
    (in_64_bits order)
heard (corrupt ring seat machine value) =
    Some (corrupt (in_32_bits ring) (in_32_bits seat) (in_32_bits machine) (in_32_bits value))
heard (survey ring seat) = Some (survey (in_32_bits ring) (in_32_bits seat))
heard (glance ring) = Some (glance (in_32_bits ring))
heard (save name) = Some (save [])

-- a command that was read
abbrev pub seen : Read → Command
seen (reads.Pass ring seat machine order) = pass ring seat machine order
seen (reads.Try ring seat machine order) = try ring seat machine order
seen (reads.Group ring seat order machines) = group ring seat order machines.items
seen (reads.Corrupt ring seat machine value) = corrupt ring seat machine value
seen (reads.Survey ring seat) = survey ring seat
seen (reads.Glance ring) = glance ring
seen reads.Save = save []

-- A line reads as a command exactly if it is that command's line: what was read is what the rings
-- hear of it, and where nothing was read, memory aside, it is the line of none.
abbrev pub IsReadAs : List ℕ → Result (Option Read) Stop → Type 0
IsReadAs line (Ok read) =
    (command : Command) × IsLineOf command line × (heard command ≡ option_map seen read)
IsReadAs line (Err stops.Memory) = Unit {0}
IsReadAs line (Err (stops.Fault f)) = (command : Command) → IsLineOf command line → ⊥

-- the number of the ring that is called
abbrev pub ring_of : Command → ℕ
ring_of (pass ring seat machine order) = ring
ring_of (try ring seat machine order) = ring
ring_of (group ring seat order machines) = ring
ring_of (corrupt ring seat machine value) = ring
ring_of (survey ring seat) = ring
ring_of (glance ring) = ring
ring_of (save name) = 0
