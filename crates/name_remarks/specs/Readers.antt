-- The readers of what comes after the first word as functions on lists (this project's own).
use Rattle.std.specs.Prelude.{ℕ, ◌^◌, List, length, nat_lt, if◌then◌else◌, Option, None, Some, Result, Ok, Err}
use Rattle.text_lines.specs.declared.fault.Fault.{Fault}
use Rattle.text_lines.specs.declared.fault.Fault.TheVariants.{Bad}
use Rattle.text_lines.specs.Reading.{Reader, ◌>>=◌, ◌then◌, as_at}
use Rattle.text_lines.specs.LongNumbers.{order_at}
use Rattle.lock_protocol.specs.NameReading.{name_at}
use Rattle.name_remarks.specs.Remarks.{Remark, bind, free, top}

-- a number of 64 bits
abbrev pub small_of : Option ℕ → List ℕ → Result (ℕ × List ℕ) Fault
small_of (Some n) rest = Ok (n, rest)
small_of None rest = Err (Bad (length rest))

unfoldable pub small_at : ℕ → Reader ℕ
small_at stop bytes = order_at stop bytes >>= λ x. small_of x.0 x.1

-- the number of a ring, of 32 bits
unfoldable pub ring_at : ℕ → Reader ℕ
ring_at stop bytes =
    small_at stop bytes
    >>= λ x. if nat_lt x.0 (2 ^ 32) then Ok (x.0, x.1) else Err (Bad (length x.1))

-- what comes after each first word
abbrev pub bind_of : ℕ × (ℕ × (ℕ × List ℕ)) → Remark
bind_of p = bind p.0 (record { before = p.1.0; floor = p.1.1.0; name = p.1.1.1 })

unfoldable pub bind_at : Reader Remark
bind_at = as_at bind_of (ring_at 32 then small_at 32 then small_at 32 then name_at 10)

unfoldable pub free_at : Reader Remark
free_at = as_at free (ring_at 10)

unfoldable pub top_at : Reader Remark
top_at = as_at top (small_at 10)
