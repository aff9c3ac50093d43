-- The readers of the lines as functions on lists: what is heard of the command, none if its order is
-- 2 ^ 64 or more (this project's own).
use Rattle.std.specs.Prelude.{ℕ, ◌+◌, List, [], ◌∷◌, ◌==◌, length, codes, if◌then◌else◌, Option, Some, Result, Ok, Err}
use Rattle.std.specs.Option.{option_map}
use Rattle.text_lines.specs.declared.fault.Fault.{Fault}
use Rattle.text_lines.specs.declared.fault.Fault.TheVariants.{Short, Bad}
use Rattle.text_lines.specs.Reading.{Reader, ◌>>=◌, after_at, ◌then◌, as_at, branch, choice_at}
use Rattle.text_lines.specs.LongNumbers.{order_at, place_at, places_at}
use Rattle.ring_service.specs.Commands.{Command, pass, try, group, corrupt, survey, glance, save}

-- one number after another, and the last of a line
abbrev pub place : Reader ℕ
place = place_at 32

abbrev pub last_place : Reader ℕ
last_place = place_at 10

abbrev pub pass_of : ℕ × (ℕ × (ℕ × Option ℕ)) → Option Command
pass_of (ring, (seat, (machine, order))) = option_map (λ n. pass ring seat machine n) order

unfoldable pub pass_at : Reader (Option Command)
pass_at = as_at pass_of (after_at (codes "pass ") (place then place then place then order_at 10))

abbrev pub try_of : ℕ × (ℕ × (ℕ × Option ℕ)) → Option Command
try_of (ring, (seat, (machine, order))) = option_map (λ n. try ring seat machine n) order

unfoldable pub try_at : Reader (Option Command)
try_at = as_at try_of (after_at (codes "try ") (place then place then place then order_at 10))

abbrev pub corrupt_of : ℕ × (ℕ × (ℕ × ℕ)) → Option Command
corrupt_of (ring, (seat, (machine, value))) = Some (corrupt ring seat machine value)

unfoldable pub corrupt_at : Reader (Option Command)
corrupt_at =
    as_at corrupt_of (after_at (codes "corrupt ") (place then place then place then last_place))

-- the spaces up to the end of the line
unfoldable pub gaps : List ℕ → ℕ
gaps [] = 0
gaps (b ∷ bs) = if b == 10 then 0 else (if b == 32 then gaps bs + 1 else gaps bs)

-- numbers up to the end of the line, one at least
unfoldable pub machines_at : Reader (List ℕ)
machines_at bytes = places_at (gaps bytes + 1) bytes

abbrev pub group_of : ℕ × (ℕ × (Option ℕ × List ℕ)) → Option Command
group_of (ring, (seat, (order, machines))) = option_map (λ n. group ring seat n machines) order

unfoldable pub group_at : Reader (Option Command)
group_at =
    as_at group_of (after_at (codes "roup ") (place then place then order_at 32 then machines_at))

abbrev pub glance_of : ℕ → Option Command
glance_of ring = Some (glance ring)

unfoldable pub glance_at : Reader (Option Command)
glance_at = as_at glance_of (after_at (codes "lance ") last_place)

-- a line that begins with a g
unfoldable pub g_at : Reader (Option Command)
g_at = after_at (codes "g") (choice_at (branch 114 group_at ∷ branch 108 glance_at ∷ []))

abbrev pub survey_of : ℕ × ℕ → Option Command
survey_of (ring, seat) = Some (survey ring seat)

unfoldable pub survey_at : Reader (Option Command)
survey_at = as_at survey_of (after_at (codes "urvey ") (place then last_place))

-- the bytes after the end of the line
unfoldable pub end_of_line : List ℕ → Result (List ℕ) Fault
end_of_line [] = Err Short
end_of_line (b ∷ bs) = if b == 10 then Ok bs else end_of_line bs

-- the rest of the line is a name, of a byte at least
unfoldable pub name_at : List ℕ → Result (List ℕ) Fault
name_at [] = Err Short
name_at (b ∷ bs) = if b == 10 then Err (Bad (length bs + 1)) else end_of_line bs

unfoldable pub save_at : Reader (Option Command)
save_at = after_at (codes "ave ") (λ bytes. name_at bytes >>= λ rest. Ok (Some (save []), rest))

-- a line that begins with an s
unfoldable pub s_at : Reader (Option Command)
s_at = after_at (codes "s") (choice_at (branch 117 survey_at ∷ branch 97 save_at ∷ []))

-- the command whose line comes
unfoldable pub command_at : Reader (Option Command)
command_at =
    choice_at (
    branch 112 pass_at
    ∷ branch 116 try_at
    ∷ branch 99 corrupt_at
    ∷ branch 103 g_at
    ∷ branch 115 s_at
    ∷ []
    )
