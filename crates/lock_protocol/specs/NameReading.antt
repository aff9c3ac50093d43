-- The reader of a name as a function on lists.
use Rattle.std.specs.Prelude.{ℕ, suc, List, [], ◌∷◌, length, take, drop, nat_lt, nat_le, ◌==◌, ◌&&◌, Bool, if◌then◌else◌, Result, Ok, Err}
use Rattle.text_lines.specs.declared.fault.Fault.{Fault}
use Rattle.text_lines.specs.declared.fault.Fault.TheVariants.{Short, Bad}
use Rattle.text_lines.specs.Reading.{Reader}
use Rattle.lock_protocol.specs.Names.{most_name, is_name_byte}

-- how many bytes come first that a name may have
unfoldable pub leading : List ℕ → ℕ
leading [] = 0
leading (b ∷ bs) = if is_name_byte b then suc (leading bs) else 0

-- a name may have this number of bytes
abbrev pub is_length : ℕ → Bool
is_length n = nat_lt 0 n && nat_le n most_name

-- these bytes are a name, if there are not too many and the byte that ends it comes next
abbrev pub ended_name : ℕ → List ℕ → List ℕ → Result (List ℕ × List ℕ) Fault
ended_name stop name [] = Err Short
ended_name stop name (b ∷ bs) =
    if (b == stop) && is_length (length name) then Ok (name, bs) else Err (Bad (suc (length bs)))

-- a name, and the byte that ends it
unfoldable pub name_at : ℕ → Reader (List ℕ)
name_at stop bytes = ended_name stop (take (leading bytes) bytes) (drop (leading bytes) bytes)
