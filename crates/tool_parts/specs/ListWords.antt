-- Which lists of numbers a word may spell.
use Rattle.std.specs.Prelude.{◌≡◌, ℕ, ◌<◌, ◌^◌, All, List, length}
use Rattle.text_lines.specs.Spelling.{list_text}

-- the word is the text of one number or more, each below 2 ^ 32, with a comma between two of them
pub record IsListText (word : List ℕ) (numbers : List ℕ) : Type 0 where
  pub some : 0 < length numbers
  pub below : All (λ n. n < 2 ^ 32) numbers
  pub spelled : list_text numbers ≡ word

-- the word is the text of no such numbers
abbrev pub IsNoList : List ℕ → Type 0
IsNoList word = (numbers : List ℕ) → IsListText word numbers → ⊥
