-- The texts that the one text of a value rules out.
use Rattle.std.proofs.Common.{◌≡◌, ℕ, ◌+◌, ◌<◌, List, [], length, Option, Some, None, Ok, Err, sym, ◌∙◌, ap, arith, length-append}
use Rattle.std.specs.Prelude.{IsSome}
use Rattle.std.proofs.lemmas.Bool.{false≢true}
use Rattle.std.specs.Io.KnownBytes.{Appends}
use Rattle.std.proofs.lemmas.List.{append-nil, append_cancel_left}
use Rattle.text_lines.specs.Texts.{AnswersAreApart, IsCutShort, IsFirstBadLine}
use Rattle.text_lines.specs.Writing.{Wrote, Writes}
use Rattle.text_lines.specs.declared.write.WriteFault.{WriteFault}
use Rattle.text_lines.proofs.Answering.{apart, none_begins_another, spellings_are_apart}
use Rattle.saved_history.specs.declared.saved.Saved.{Saved}
use Rattle.saved_history.specs.Content.{Content, content}
use Rattle.saved_history.specs.Meaning.{IsRightRead, IsText}
use Rattle.saved_history.specs.Spelling.{Fits, text}
use Rattle.saved_history.proofs.TextLaws.{text_reads}

-- known bytes grow by one text
same_grown : (o n : Option (List ℕ)) (x y : List ℕ) → IsSome o → Appends o n x → Appends o n y → x ≡ y
same_grown None n x y known h k = absurd (false≢true known)
same_grown (Some xs) None x y known h k = absurd h
same_grown (Some xs) (Some ys) x y known h k = append_cancel_left xs x y (sym h ∙ k)

-- a text has one value
one_value : (a b : Content) → Fits a → Fits b → text a ≡ text b → a ≡ b
one_value a b f g e = (spellings_are_apart text_reads a b [] f g (append-nil (text a) ∙ e)).0

pub one_value_is_written : (o n : Option (List ℕ)) (a b : Content) → IsSome o → Fits a → Fits b → Appends o n (text a) → Appends o n (text b) → a ≡ b
one_value_is_written o n a b known f g h k = one_value a b f g (same_grown o n (text a) (text b) known h k)

pub one_value_is_read : (bytes : List ℕ) (a b : Saved) → IsRightRead bytes (Ok a) → IsRightRead bytes (Ok b) → content a ≡ content b
one_value_is_read bytes a b h k = one_value (content a) (content b) h.0 k.0 (sym h.1 ∙ k.1)

-- the text after a fault is not all
not_all : (o n : Option (List ℕ)) (x left : List ℕ) → IsSome o → 0 < length left → Wrote o n x left → Appends o n x → ⊥
not_all o n x left known some h k =
    let front : x ≡ h.0 = same_grown o n x h.0 known k h.2 in
    let long : length x ≡ length h.0 + length left = ap length h.1 ∙ length-append h.0 left in
    let same = ap length front in
    omega arith

pub no_fault_is_hidden : (o n : Option (List ℕ)) (x : List ℕ) (e : WriteFault) → IsSome o → Writes o n (Err e) x → Appends o n x → ⊥
no_fault_is_hidden o n x e known h k = not_all o n x h.0 known h.1 h.2 k

pub no_fault_is_made : (o n : Option (List ℕ)) (x : List ℕ) (e : WriteFault) → IsSome o → Appends o n x → Writes o n (Err e) x → ⊥
no_fault_is_made o n x e known k h = not_all o n x h.0 known h.1 h.2 k

-- at most one answer is right
answers : (bytes : List ℕ) → AnswersAreApart IsText bytes
answers bytes = apart IsText (none_begins_another text_reads) bytes

pub no_text_is_cut : (bytes : List ℕ) → IsText bytes → IsCutShort IsText bytes → ⊥
no_text_is_cut bytes h k = ((answers bytes).text h).0 k

pub no_bad_line_is_cut : (bytes : List ℕ) (line : ℕ) → IsFirstBadLine IsText bytes line → IsCutShort IsText bytes → ⊥
no_bad_line_is_cut bytes line h k = (answers bytes).cut k line h

pub no_cut_is_bad : (bytes : List ℕ) (line : ℕ) → IsCutShort IsText bytes → IsFirstBadLine IsText bytes line → ⊥
no_cut_is_bad bytes line k h = (answers bytes).cut k line h

pub one_bad_line : (bytes : List ℕ) (line other : ℕ) → IsFirstBadLine IsText bytes line → IsFirstBadLine IsText bytes other → line ≡ other
one_bad_line bytes line other h k = (answers bytes).line line other h k
