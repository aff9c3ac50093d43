-- The lines of holds (this project's own).
use Rattle.std.specs.Prelude.{ℕ, ◌==◌, ◌&&◌, Bool, true, false, cond, List, ◌++◌, Option, Some, None, codes, decimal}
use Rattle.chain_readers.specs.declared.holds.Grant.{Grant}
use Rattle.chain_readers.specs.declared.holds.End.{End}
use Rattle.chain_readers.specs.declared.holds.Hold.{Hold}
use Rattle.chain_readers.specs.declared.hold_lines.Choice.{Choice}

-- what is not known is a dash
abbrev pub grant_text : Option Grant → List ℕ
grant_text None = codes " label - from -"
grant_text (Some g) =
    codes " label " ++ (decimal g.label ++ (codes " from " ++ decimal g.from))

-- how a hold ended, and after how many events
abbrev pub ending : Bool → List ℕ
ending left = cond left (codes " left\n") (codes " released\n")

abbrev pub end_text : Option End → List ℕ
end_text None = codes " to - open\n"
end_text (Some e) = codes " to " ++ (decimal e.to ++ ending e.left)

-- a number is the one that is asked for, if one is
abbrev pub is_asked : Option ℕ → ℕ → Bool
is_asked None n = true
is_asked (Some wanted) n = wanted == n

-- so is the label of a grant that is known
abbrev pub is_label_asked : Option ℕ → Option Grant → Bool
is_label_asked None grant = true
is_label_asked (Some wanted) None = false
is_label_asked (Some wanted) (Some g) = wanted == g.label

-- whether the lines of a choice have this hold
abbrev pub is_chosen : Choice → ℕ → Hold → Bool
is_chosen c lock h = is_asked c.lock lock && is_label_asked c.label h.grant
