-- The saved texts, and the right answers of their reader.
use Rattle.std.specs.Prelude.{◌≡◌, ℕ, List, [], ◌++◌, Result, Ok, Err}
use Rattle.text_lines.specs.declared.answer.ReadError.{ReadError}
use Rattle.text_lines.specs.declared.answer.ReadError.TheVariants.{Syntax, Truncated, OutOfMemory}
use Rattle.text_lines.specs.Texts.{Spells, IsRightAnswer, AnswersAreApart}
use Rattle.saved_history.specs.declared.saved.Saved.{Saved}
use Rattle.saved_history.specs.Content.{Content, content}
use Rattle.saved_history.specs.Versions.{first_version}
use Rattle.saved_history.specs.Spelling.{Fits, HasNoMember, text}

-- the bytes are the text of a content that fits
abbrev pub IsText : List ℕ → Type 0
IsText = Spells Fits text

-- the value whose text the bytes are; or that they are cut short of a longer text; or else the
-- first line such that no text begins with the bytes up to its end; memory aside
abbrev pub IsRightRead : List ℕ → Result Saved ReadError → Type 0
IsRightRead = IsRightAnswer content Fits text

-- no text begins another one, and each text has one value
abbrev pub TextsAreApart : Type 0
TextsAreApart =
    (a b : Content) (more : List ℕ) → Fits a → Fits b → text a ++ more ≡ text b
    → (a ≡ b) × (more ≡ [])

-- at most one kind of answer to some bytes is right, and at most one line
abbrev pub OneAnswerIsRight : Type 0
OneAnswerIsRight = (bytes : List ℕ) → AnswersAreApart IsText bytes

-- the reader's answer is a value that says just this, or out of memory
abbrev pub IsReadAs : Content → Result Saved ReadError → Type 0
IsReadAs c (Ok saved) = content saved ≡ c
IsReadAs c (Err OutOfMemory) = Unit {0}
IsReadAs c (Err Truncated) = ⊥
IsReadAs c (Err (Syntax line)) = ⊥

-- A value that fits reads back from its text: no other answer to the text is right.
abbrev pub TextsReadBack : Type 0
TextsReadBack =
    (c : Content) (answer : Result Saved ReadError) → Fits c → IsRightRead (text c) answer
    → IsReadAs c answer

-- A value that fits in the first version has no member of a group.
abbrev pub FirstHasNoMembers : Type 0
FirstHasNoMembers = (c : Content) → Fits c → c.version ≡ first_version → HasNoMember c
