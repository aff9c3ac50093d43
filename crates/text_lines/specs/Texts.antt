-- The texts of any spelling, and which refusal some bytes deserve (this project's own).
use Rattle.std.specs.Prelude.{◌≡◌, ℕ, zero, suc, ◌+◌, ◌-◌, ◌<◌, List, [], ◌∷◌, ◌++◌, ◌==◌, take, length, if◌then◌else◌, Result, Ok, Err}
use Rattle.std.specs.List.{count_by}
use Rattle.text_lines.specs.declared.fault.Fault.TheVariants.{Short, Bad}
use Rattle.text_lines.specs.declared.fault.Stop.{Stop}
use Rattle.text_lines.specs.declared.fault.Stop.TheVariants as stops
use Rattle.text_lines.specs.declared.answer.ReadError.{ReadError}
use Rattle.text_lines.specs.declared.answer.ReadError.TheVariants.{Syntax, Truncated, OutOfMemory}

-- the bytes spell something that fits
abbrev pub Spells : {A : Type 0} → (A → Type 0) → (A → List ℕ) → List ℕ → Type 0
Spells Fits spell bytes = (a : _) × Fits a × (bytes ≡ spell a)

-- some text begins with the bytes
abbrev pub Begins : (List ℕ → Type 0) → List ℕ → Type 0
Begins IsText bytes = (more : List ℕ) × IsText (bytes ++ more)

-- some longer text begins with the bytes
abbrev pub IsCutShort : (List ℕ → Type 0) → List ℕ → Type 0
IsCutShort IsText bytes = (byte : ℕ) × (more : List ℕ) × IsText (bytes ++ byte ∷ more)

-- the first n lines, each with the LF that ends it where there is one
abbrev pub first_lines : ℕ → List ℕ → List ℕ
first_lines zero bytes = []
first_lines (suc n) [] = []
first_lines (suc n) (b ∷ bs) = b ∷ (if b == 10 then first_lines n bs else first_lines (suc n) bs)

-- no text begins with the lines up to this one, and some text does with those before it
pub record IsFirstBadLine (IsText : List ℕ → Type 0) (bytes : List ℕ) (line : ℕ) : Type 0 where
  pub bad : Begins IsText (first_lines line bytes) → ⊥
  pub good : (k : ℕ) → k < line → Begins IsText (first_lines k bytes)

-- The answer is right, memory aside: the value whose spelling the bytes are, seen by view, or that
-- they are cut short, or else their first bad line.
abbrev pub IsRightAnswer : {X A : Type 0} → (X → A) → (A → Type 0) → (A → List ℕ) → List ℕ
    → Result X ReadError → Type 0
IsRightAnswer view Fits spell bytes (Ok x) = Fits (view x) × (bytes ≡ spell (view x))
IsRightAnswer view Fits spell bytes (Err Truncated) = IsCutShort (Spells Fits spell) bytes
IsRightAnswer view Fits spell bytes (Err (Syntax line)) =
    IsFirstBadLine (Spells Fits spell) bytes line
IsRightAnswer view Fits spell bytes (Err OutOfMemory) = Unit {0}

-- no text begins another one
abbrev pub NoneBeginsAnother : (List ℕ → Type 0) → Type 0
NoneBeginsAnother IsText = (bytes more : List ℕ) → IsText bytes → IsText (bytes ++ more) → more ≡ []

-- At most one answer is right: a text is neither cut short nor has a bad line, bytes that are cut
-- short have no bad line, and there is one first bad line.
pub record AnswersAreApart (IsText : List ℕ → Type 0) (bytes : List ℕ) : Type 0 where
  pub text : IsText bytes
      → (IsCutShort IsText bytes → ⊥) × ((line : ℕ) → IsFirstBadLine IsText bytes line → ⊥)
  pub cut : IsCutShort IsText bytes → (line : ℕ) → IsFirstBadLine IsText bytes line → ⊥
  pub line : (l m : ℕ) → IsFirstBadLine IsText bytes l → IsFirstBadLine IsText bytes m → l ≡ m

-- the line of a place: one more than the LFs before it
abbrev pub line_of : List ℕ → ℕ → ℕ
line_of bytes place = count_by (λ b. b == 10) (take place bytes) + 1

-- the verdict of a reader that stopped on the whole bytes
abbrev pub refusal_of : List ℕ → Stop → ReadError
refusal_of bytes stops.Memory = OutOfMemory
refusal_of bytes (stops.Fault Short) = Truncated
refusal_of bytes (stops.Fault (Bad left)) = Syntax (line_of bytes (length bytes - left))

-- the same of a reader's result: its value, or its verdict
abbrev pub answer_of : {X : Type 0} → List ℕ → Result X Stop → Result X ReadError
answer_of bytes (Ok x) = Ok x
answer_of bytes (Err stop) = Err (refusal_of bytes stop)
