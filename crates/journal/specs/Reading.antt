-- The readers of a journal: the values at the front of some bytes.
use Rattle.std.specs.Prelude.{◌≡◌, ℕ, List, ◌++◌, Option, Some, None, Result, Ok, Err}
use Rattle.text_lines.specs.Reading.{Reader, after_at}
use Rattle.saved_history.specs.Content.{Content}
use Rattle.saved_history.specs.Lines.{text_at}
use Rattle.journal.specs.Spelling.{first_line}

-- no line of anything that fits is at the front of the bytes
abbrev pub BeginsNone : {A : Type 0} → (A → Type 0) → (A → List ℕ) → List ℕ → Type 0
BeginsNone Fits line bytes = (a : _) (more : List ℕ) → Fits a → bytes ≡ line a ++ more → ⊥

-- The value at the front of the bytes, seen by view: something that fits, and the bytes
-- after its line; or that no line is there; memory aside.
abbrev pub Finds : {X A E : Type 0} → (X → A × List ℕ) → (A → Type 0) → (A → List ℕ) → List ℕ
    → Result (Option X) E → Type 0
Finds view Fits line bytes (Ok (Some x)) = Fits (view x).0 × (bytes ≡ line (view x).0 ++ (view x).1)
Finds view Fits line bytes (Ok None) = BeginsNone Fits line bytes
Finds view Fits line bytes (Err e) = Unit {0}

-- the part before the calls
unfoldable pub head_at : Reader Content
head_at = after_at first_line text_at
