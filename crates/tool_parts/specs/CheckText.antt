-- The output of `check` for a legal text (this project's own line): its sums.
use Rattle.std.specs.Prelude.{ℕ, List, ◌++◌, codes, decimal}
use Rattle.ring_check.specs.declared.answers.Summary.{Summary}

-- the numbers of rings, events, granted passes, corruptions and surveys
abbrev pub legal_line : Summary → List ℕ
legal_line s =
    codes "legal rings " ++ (decimal s.rings ++ (codes " events " ++ (decimal s.events
    ++ (codes " granted " ++ (decimal s.granted ++ (codes " corrupted " ++ (decimal s.corrupted
    ++ (codes " surveys " ++ (decimal s.surveys ++ codes "\n")))))))))
