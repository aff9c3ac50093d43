-- A machine that does lines, and what these leave in a journal (this project's own).
use Rattle.std.specs.Prelude.{◌≡◌, ℕ, suc, Bool, false, cond, List, [], ◌∷◌, ◌++◌}
use Rattle.noted_lines.specs.Notes.{note_text}

-- What does lines, each of which has its LF: the state after a line, its answer, what it notes, and
-- whether it changes anything; and the state after a restart.
pub record Machine : Type 1 where
  pub State : Type 0
  pub does : State → List ℕ → State
  pub says : State → List ℕ → List ℕ
  pub notes : State → List ℕ → List ℕ
  pub changes : State → List ℕ → Bool
  pub restarts : State → State

-- a line that changes nothing leaves the state as it is
abbrev pub StaysUnchanged : Machine → Type 0
StaysUnchanged M = (s : M.State) (line : List ℕ) → M.changes s line ≡ false → M.does s line ≡ s

module _ (M : Machine) where
  -- the state after lines, one after the other
  abbrev pub after : M.State → List (List ℕ) → M.State
  after s [] = s
  after s (line ∷ lines) = after (M.does s line) lines

  -- how many lines were noted after these, if n were before
  abbrev pub counted : ℕ → M.State → List (List ℕ) → ℕ
  counted n s [] = n
  counted n s (line ∷ lines) =
      counted (cond (M.changes s line) (suc n) n) (M.does s line) lines

  -- what a line leaves that changes anything, if n were noted before: its note, and what it notes
  abbrev pub trace_of : ℕ → M.State → List ℕ → List ℕ
  trace_of n s line = note_text (suc n) line ++ M.notes s line

  -- what lines leave in a journal: each that changes anything, and no other
  abbrev pub trace : ℕ → M.State → List (List ℕ) → List ℕ
  trace n s [] = []
  trace n s (line ∷ lines) =
      cond {A = List ℕ} (M.changes s line) (trace_of n s line ++ trace (suc n) (M.does s line) lines)
      (trace n (M.does s line) lines)

  -- the answers to lines, one after the other
  abbrev pub answers : M.State → List (List ℕ) → List ℕ
  answers s [] = []
  answers s (line ∷ lines) = M.says s line ++ answers (M.does s line) lines
