-- The last place in a log that the remarks of a file give (this project's own).
use Rattle.std.specs.Prelude.{ℕ, ◌-◌, ◌==◌, ◌&&◌, cond, Bool, List, [], take, codes, Option, None, Some}
use Rattle.std.specs.List.{fold, starts_with, ends_with}
use Rattle.journal.specs.declared.errors.RecoverError.{RecoverError}
use Rattle.segment_files.specs.Chain.{line_in}
use Rattle.segment_files.specs.Remarks.{line_among}

-- a whole remark of a place: it begins with "# at ", and has its LF
abbrev pub tells_place : List ℕ → Bool
tells_place line =
    starts_with (λ a b. a == b) line (codes "# at ")
    && ends_with (λ a b. a == b) line (codes "\n")

-- the last of these lines that is one, or else what was found before them
unfoldable pub place_after : List ℕ → List (List ℕ) → List ℕ
place_after found lines =
    fold (λ (last line : List ℕ). cond (tells_place line) line last) found lines

-- the last of these lines that is one; nothing if none is
abbrev pub last_place : List (List ℕ) → List ℕ
last_place lines = place_after [] lines

-- the lines before the one that a refusal names, where remarks have no number; else all
abbrev pub kept_lines : List (List ℕ) → Option RecoverError → List (List ℕ)
kept_lines lines None = lines
kept_lines lines (Some e) = take (line_among lines (line_in e) - 1) lines
