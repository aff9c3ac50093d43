-- A name in a folder, as it is shown.
use Rattle.std.proofs.Common.{◌≡◌, ℕ, Bool, true, false, cond, List, refl}
use Rattle.std.proofs.lemmas.Str.{is_utf8-from_IsUtf8, IsUtf8-from_is_utf8}
use Rattle.std.specs.Str.{IsUtf8, is_utf8}

by_test : (shown other : List ℕ) (b : Bool) → (b ≡ true → ⊥) → cond b shown other ≡ other
by_test shown other true fails = absurd (fails refl)
by_test shown other false fails = refl

pub text_shown : (bs other : List ℕ) → IsUtf8 bs → bs ≡ cond (is_utf8 bs) bs other
text_shown bs other text = rw (is_utf8-from_IsUtf8 bs text) refl

pub text_hidden : (bs other : List ℕ) → (IsUtf8 bs → ⊥) → cond (is_utf8 bs) bs other ≡ other
text_hidden bs other fails =
    by_test bs other (is_utf8 bs) (λ holds. fails (IsUtf8-from_is_utf8 bs holds))
