-- The readers of asks as functions on lists: what is heard of an ask, none if a number of it has more
-- than 64 bits (this project's own).
use Rattle.std.specs.Prelude.{◌≡◌, ℕ, ◌<◌, ◌^◌, List, [], ◌∷◌, codes, Option, None, Some, Ok, Err}
use Rattle.text_lines.specs.declared.fault.Fault.{Fault as Stop}
use Rattle.text_lines.specs.Reading.{Reader, nothing_at, after_at, ◌then◌, as_at, branch, choice_at, whole_at}
use Rattle.text_lines.specs.LongNumbers.{order_at}
use Rattle.lock_protocol.specs.declared.inputs.Fault.TheVariants as fault
use Rattle.lock_protocol.specs.Inputs.{IsFront}
use Rattle.lock_protocol.specs.Asks.{Ask, acquire, try, release, cancel, leave, corrupt, stats, of_one, of_two}
use Rattle.lock_protocol.specs.NameReading.{name_at}
use Rattle.lock_protocol.specs.Views.{Input}
use Rattle.lock_protocol.specs.Views as input

-- a lock's name before other words, and the last of a line
abbrev pub lock : Reader (List ℕ)
lock = name_at 32

abbrev pub last_lock : Reader (List ℕ)
last_lock = name_at 10

-- one number after another, and the last of a line
abbrev pub number : Reader (Option ℕ)
number = order_at 32

abbrev pub last : Reader (Option ℕ)
last = order_at 10

abbrev pub acquire_of : List ℕ × Option ℕ → Option Ask
acquire_of (name, label) = of_one (acquire name) label

unfoldable pub acquire_at : Reader (Option Ask)
acquire_at = as_at acquire_of (after_at (codes "acquire ") (lock then last))

abbrev pub try_of : List ℕ × Option ℕ → Option Ask
try_of (name, label) = of_one (try name) label

unfoldable pub try_at : Reader (Option Ask)
try_at = as_at try_of (after_at (codes "try ") (lock then last))

abbrev pub release_of : List ℕ × Option ℕ → Option Ask
release_of (name, token) = of_one (release name) token

unfoldable pub release_at : Reader (Option Ask)
release_at = as_at release_of (after_at (codes "release ") (lock then last))

abbrev pub cancel_of : List ℕ → Option Ask
cancel_of name = Some (cancel name)

unfoldable pub cancel_at : Reader (Option Ask)
cancel_at = as_at cancel_of (after_at (codes "ancel ") last_lock)

abbrev pub corrupt_of : List ℕ × (Option ℕ × Option ℕ) → Option Ask
corrupt_of (name, (machine, value)) = of_two (corrupt name) machine value

unfoldable pub corrupt_at : Reader (Option Ask)
corrupt_at = as_at corrupt_of (after_at (codes "orrupt ") (lock then number then last))

-- an ask that begins with a c
unfoldable pub c_at : Reader (Option Ask)
c_at = after_at (codes "c") (choice_at (branch 97 cancel_at ∷ branch 111 corrupt_at ∷ []))

abbrev pub leave_of : Unit {0} → Option Ask
leave_of u = Some leave

unfoldable pub leave_at : Reader (Option Ask)
leave_at = as_at leave_of (after_at (codes "leave\n") nothing_at)

abbrev pub stats_of : List ℕ → Option Ask
stats_of name = Some (stats name)

unfoldable pub stats_at : Reader (Option Ask)
stats_at = as_at stats_of (after_at (codes "stats ") last_lock)

-- the ask that comes
unfoldable pub ask_at : Reader (Option Ask)
ask_at =
    choice_at (
    branch 97 acquire_at
    ∷ branch 116 try_at
    ∷ branch 114 release_at
    ∷ branch 99 c_at
    ∷ branch 108 leave_at
    ∷ branch 115 stats_at
    ∷ []
    )

-- what is read of the rest of a line, after the number of the client and a space
abbrev pub IsAskedAs : ℕ → List ℕ → Input → Type 0
IsAskedAs client rest (input.Asked c ask) =
    (c ≡ client) × (whole_at ask_at rest ≡ Ok (Some ask))
IsAskedAs client rest (input.Refused c fault.Number) =
    (c ≡ client) × (whole_at ask_at rest ≡ Ok None)
IsAskedAs client rest (input.Refused c fault.Syntax) =
    (c ≡ client) × ((f : Stop) × (whole_at ask_at rest ≡ Err f))
IsAskedAs client rest input.Nobody = ⊥

-- what is said of a line that asks nothing, of which these bytes are looked at
abbrev pub IsUnread : List ℕ → Input → Type 0
IsUnread front (input.Refused c fault.Syntax) = (c < 2 ^ 64) × IsFront c front
IsUnread front input.Nobody = (c : ℕ) → c < 2 ^ 64 → IsFront c front → ⊥
IsUnread front _ = ⊥
