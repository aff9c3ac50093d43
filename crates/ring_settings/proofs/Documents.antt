-- The JSON value of some bytes, by a read of them.
use Rattle.std.proofs.Common.{◌≡◌, ℕ, List, Bool, true, false, refl, Some, None, IsUtf8, cond}
use Rattle.std.specs.Str.{is_utf8}
use Rattle.std.proofs.lemmas.Str.{is_utf8-from_IsUtf8, IsUtf8-from_is_utf8}
use Rattle.serde_json.specs.Data.{Data}
use Rattle.serde_json.specs.Read.{read}
use Rattle.ring_settings.specs.Walk.{json_of}

pub json_of-some : (bs : List ℕ) (d : Data) → IsUtf8 bs → read bs ≡ Some d → json_of bs ≡ Some d
json_of-some bs d text is = rw (is_utf8-from_IsUtf8 bs text) is

none_by : (bs : List ℕ) (b : Bool) → is_utf8 bs ≡ b → (IsUtf8 bs → read bs ≡ None) → cond b (read bs) None ≡ None
none_by bs true e h = h (IsUtf8-from_is_utf8 bs e)
none_by bs false e h = refl

pub json_of-none : (bs : List ℕ) → (IsUtf8 bs → read bs ≡ None) → json_of bs ≡ None
json_of-none bs h = none_by bs (is_utf8 bs) refl h
