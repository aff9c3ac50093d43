-- Readers that take no memory (this project's own).
use Rattle.std.specs.Prelude.{◌≡◌, Result, Ok, Err}
use Rattle.text_lines.specs.declared.fault.Fault.{Fault}

-- The result of a function, seen by view, is the result of the function on lists.
abbrev pub Returns : {X Y : Type 0} → (X → Y) → Result X Fault → Result Y Fault → Type 0
Returns view (Ok x) read = read ≡ Ok (view x)
Returns view (Err f) read = read ≡ Err f
