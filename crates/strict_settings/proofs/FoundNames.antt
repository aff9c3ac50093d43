-- What is found in bytes, by a read of them.
use Rattle.std.proofs.Common.{◌≡◌, ◌∙◌, ℕ, List, Bool, true, false, cond, Option, None, Some, IsUtf8, refl, sym, ap}
use Rattle.std.specs.Prelude.{option_and_then}
use Rattle.std.specs.Str.{is_utf8}
use Rattle.std.proofs.lemmas.Str.{is_utf8-from_IsUtf8, IsUtf8-from_is_utf8}
use Rattle.json.specs.Json.{Json, document}
use Rattle.strict_settings.specs.Strict.{unread_of}
use Rattle.strict_settings.specs.Unread.{unread_in}

none_by : (bs : List ℕ) (b : Bool) → is_utf8 bs ≡ b → (IsUtf8 bs → document bs ≡ None) → cond b (option_and_then unread_in (document bs)) None ≡ None
none_by bs true e h = ap (option_and_then unread_in) (h (IsUtf8-from_is_utf8 bs e))
none_by bs false e h = refl

pub unread_none : (bs : List ℕ) → (IsUtf8 bs → document bs ≡ None) → None ≡ unread_of bs
unread_none bs h = sym (none_by bs (is_utf8 bs) refl h)

pub unread_is : (bs : List ℕ) (j : Json) (o : Option (List ℕ)) → IsUtf8 bs → document bs ≡ Some j → o ≡ unread_in j → o ≡ unread_of bs
unread_is bs j o text is same = rw (is_utf8-from_IsUtf8 bs text) (same ∙ sym (ap (option_and_then unread_in) is))
