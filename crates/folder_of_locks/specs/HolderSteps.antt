-- The reader of the line of a hold as a function on lists.
use Rattle.std.specs.Prelude.{ℕ, ◌^◌, List, codes}
use Rattle.text_lines.specs.Reading.{Reader, number_at, after_at, ◌then◌, as_at}
use Rattle.lock_protocol.specs.NameReading.{name_at}
use Rattle.folder_of_locks.specs.declared.holder_reading.HoldText.{HoldText}
use Rattle.folder_of_locks.specs.Holders.{Hold}

abbrev pub lock_at : Reader (List ℕ)
lock_at = name_at 32

abbrev pub token_at : Reader ℕ
token_at = number_at (2 ^ 64) 32

abbrev pub client_at : Reader ℕ
client_at = number_at (2 ^ 64) 10

abbrev pub hold_from : List ℕ × (ℕ × ℕ) → Hold
hold_from (name, (token, client)) = record { name = name; token = token; client = client }

-- the hold of the line that comes
unfoldable pub hold_at : Reader Hold
hold_at = as_at hold_from (after_at (codes "hold ") (lock_at then token_at then client_at))

-- a hold whose name is among the bytes of a text
abbrev pub in_text : HoldText → Hold
in_text t = record { name = t.name.now; token = t.token; client = t.client }
