-- The bytes after those that a writer held.
use Rattle.std.proofs.Common.{◌≡◌, ℕ, List, Option, Some, None, sym, ◌∙◌}
use Rattle.std.specs.Prelude.{IsSome}
use Rattle.std.proofs.lemmas.Bool.{false≢true}
use Rattle.std.specs.Io.KnownBytes.{Appends}
use Rattle.std.proofs.lemmas.List.{append_cancel_left}

-- known bytes grow by one text
pub one_text : (o n : Option (List ℕ)) (x y : List ℕ) → IsSome o → Appends o n x → Appends o n y → x ≡ y
one_text None n x y known h k = absurd (false≢true known)
one_text (Some xs) None x y known h k = absurd h
one_text (Some xs) (Some ys) x y known h k = append_cancel_left xs x y (sym h ∙ k)
