-- The bytes after those that a writer held are one text, and a text has one value.
use Rattle.std.proofs.Common.{◌≡◌, ℕ, ◌+◌, ◌<◌, List, [], ◌++◌, length, Option, Some, None, sym, ◌∙◌, ap, arith, length-append}
use Rattle.std.specs.Prelude.{IsSome}
use Rattle.std.proofs.lemmas.Bool.{false≢true}
use Rattle.std.specs.Io.KnownBytes.{Appends}
use Rattle.std.proofs.lemmas.List.{append-nil, append_cancel_left}
use Rattle.text_lines.proofs.Answering.{spellings_are_apart}
use Rattle.text_lines.proofs.Writing.{appends_then}
use Rattle.saved_history.specs.Content.{Content}
use Rattle.saved_history.specs.Spelling.{Fits, text}
use Rattle.saved_history.proofs.TextLaws.{text_reads}

-- known bytes grow by one text
pub one_text : (o n : Option (List ℕ)) (x y : List ℕ) → IsSome o → Appends o n x → Appends o n y → x ≡ y
one_text None n x y known h k = absurd (false≢true known)
one_text (Some xs) None x y known h k = absurd h
one_text (Some xs) (Some ys) x y known h k = append_cancel_left xs x y (sym h ∙ k)

-- a text has one value
pub one_value : (a b : Content) → Fits a → Fits b → text a ≡ text b → a ≡ b
one_value a b f g e = (spellings_are_apart text_reads a b [] f g (append-nil (text a) ∙ e)).0

pub one_value_is_written : (o n : Option (List ℕ)) (a b : Content) → IsSome o → Fits a → Fits b → Appends o n (text a) → Appends o n (text b) → a ≡ b
one_value_is_written o n a b known f g h k = one_value a b f g (one_text o n (text a) (text b) known h k)

-- the bytes there are not the same with more before them
pub not_more : (o n : Option (List ℕ)) (more x : List ℕ) → IsSome o → 0 < length more → Appends o n x → Appends o n (more ++ x) → ⊥
not_more o n more x known some h k =
    let long : length x ≡ length more + length x = ap length (one_text o n x (more ++ x) known h k) ∙ length-append more x in
    omega (arith, some, long)

-- nor is it the same twice
pub not_twice : (o m n : Option (List ℕ)) (x : List ℕ) → IsSome o → 0 < length x → Appends o m x → Appends m n x → Appends o n x → ⊥
not_twice o m n x known some h k one = not_more o n x x known some one (appends_then o m n x x h k)

-- nor is it there where nothing was written
pub not_nothing : (o : Option (List ℕ)) (x : List ℕ) → IsSome o → 0 < length x → Appends o o x → ⊥
not_nothing None x known some h = absurd (false≢true known)
not_nothing (Some xs) x known some h =
    let long : length xs ≡ length xs + length x = ap length h ∙ length-append xs x in
    omega (arith, some, long)
