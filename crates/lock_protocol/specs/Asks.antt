-- What clients ask of locks, and how it is spelled (this project's own).
use Rattle.std.specs.Prelude.{ℕ, List, ◌++◌, codes, Option, Some, None}
use Rattle.text_lines.specs.LongNumbers.{number_spaced, number_ended, in_64_bits}
use Rattle.lock_protocol.specs.Names.{IsName, name_spaced, name_ended}
use Rattle.lock_protocol.specs.declared.inputs.Ask.{Ask as Read}
use Rattle.lock_protocol.specs.declared.inputs.Ask.TheVariants as reads

-- what a client asks, with the name of the lock, and with numbers of any size: a label, twice; a
-- token; none; a machine and a value; none. A leave names no lock.
pub data Ask : Type 0 where
  acquire : List ℕ → ℕ → Ask
  try : List ℕ → ℕ → Ask
  release : List ℕ → ℕ → Ask
  cancel : List ℕ → Ask
  leave : Ask
  corrupt : List ℕ → ℕ → ℕ → Ask
  stats : List ℕ → Ask

-- how it is spelled, up to the end of the line
abbrev pub ask_text : Ask → List ℕ
ask_text (acquire name label) = codes "acquire " ++ (name_spaced name ++ number_ended label)
ask_text (try name label) = codes "try " ++ (name_spaced name ++ number_ended label)
ask_text (release name token) = codes "release " ++ (name_spaced name ++ number_ended token)
ask_text (cancel name) = codes "cancel " ++ name_ended name
ask_text leave = codes "leave\n"
ask_text (corrupt name machine value) =
    codes "corrupt " ++ (name_spaced name ++ (number_spaced machine ++ number_ended value))
ask_text (stats name) = codes "stats " ++ name_ended name

-- what it names as a lock may be a lock's name
abbrev pub HasName : Ask → Type 0
HasName (acquire name label) = IsName name
HasName (try name label) = IsName name
HasName (release name token) = IsName name
HasName (cancel name) = IsName name
HasName leave = Unit {0}
HasName (corrupt name machine value) = IsName name
HasName (stats name) = IsName name

-- an ask of one or two numbers, if each of them is there
abbrev pub of_one : (ℕ → Ask) → Option ℕ → Option Ask
of_one make (Some a) = Some (make a)
of_one make None = None

abbrev pub of_two : (ℕ → ℕ → Ask) → Option ℕ → Option ℕ → Option Ask
of_two make (Some a) b = of_one (make a) b
of_two make None b = None

-- the ask, if each of its numbers has 64 bits
abbrev pub heard : Ask → Option Ask
heard (acquire name label) = of_one (acquire name) (in_64_bits label)
heard (try name label) = of_one (try name) (in_64_bits label)
heard (release name token) = of_one (release name) (in_64_bits token)
heard (cancel name) = Some (cancel name)
heard leave = Some leave
heard (corrupt name machine value) =
    of_two (corrupt name) (in_64_bits machine) (in_64_bits value)
heard (stats name) = Some (stats name)

-- an ask that was read
abbrev pub seen : Read → Ask
seen (reads.Acquire name label) = acquire name.now label
seen (reads.Try name label) = try name.now label
seen (reads.Release name token) = release name.now token
seen (reads.Cancel name) = cancel name.now
seen reads.Leave = leave
seen (reads.Corrupt name machine value) = corrupt name.now machine value
seen (reads.Stats name) = stats name.now
