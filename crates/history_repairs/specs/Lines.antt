-- The line of a ring's repairs, as a plain function of its block (this project's own).
use Rattle.std.specs.Prelude.{ℕ, max, List, [], ◌∷◌, ◌++◌, map, length, codes, Option, Some, None}
use Rattle.std.specs.Fmt.{decimal}
use Rattle.std.specs.List.{flat_map, fold}
use Rattle.ring_model.specs.Ring.{ring_with, bound}
use Rattle.ring_model.specs.Resources.{till}
use Rattle.ring_model.specs.Surveys.{corrupted_count}
use Rattle.saved_history.specs.Content.{Content, Block}
use Rattle.ring_check.specs.Table.{first_state}
use Rattle.ring_check.specs.Legal.{history}
use Rattle.history_repairs.specs.declared.repairs.Repair.{Repair}
use Rattle.history_repairs.specs.declared.spreads.Spread.{Spread}
use Rattle.history_repairs.specs.Ranks.{ranked, median}
use Rattle.history_repairs.specs.Repairs.{repairs}

-- the repairs of a block that ended
abbrev pub repairs_of : Block → List Repair
repairs_of b = repairs till (first_state (ring_with b.k b.start)) (history b)

-- their granted passes
abbrev pub passes_of : List Repair → List ℕ
passes_of rs = map (λ (r : Repair). r.passes) rs

-- the greatest number of machines that a fault left privileged; 0 if there is none
abbrev pub most_privileged : List Repair → ℕ
most_privileged rs = fold (λ most (r : Repair). max most r.privileged) 0 rs

-- the least, the median and the greatest number of passes, and that of privileged machines
abbrev pub spread_of : List Repair → Spread
spread_of rs = record {
  least = ranked (passes_of rs) 1;
  median = median (passes_of rs);
  greatest = ranked (passes_of rs) (length rs);
  privileged = most_privileged rs;
}

-- these numbers as words
abbrev pub spread_words : Spread → List ℕ
spread_words s =
    codes " least "
    ++ (decimal s.least
    ++ (codes " median "
    ++ (decimal s.median
    ++ (codes " greatest " ++ (decimal s.greatest ++ (codes " privileged " ++ decimal s.privileged))))))

-- what the repairs took, if there are any
abbrev pub spread_if : List Repair → Option Spread
spread_if [] = None
spread_if (r ∷ rs) = Some (spread_of (r ∷ rs))

-- as words; each number is a dash where no repair has ended
abbrev pub some_words : Option Spread → List ℕ
some_words None = codes " least - median - greatest - privileged -"
some_words (Some s) = spread_words s

-- a ring's place and its size, how many faults it had, and how many of their repairs ended
abbrev pub ring_words : Block → ℕ → List ℕ
ring_words b ended =
    codes "repairs ring "
    ++ (decimal b.index
    ++ (codes " n "
    ++ (decimal b.n
    ++ (codes " k "
    ++ (decimal b.k
    ++ (codes " faults "
    ++ (decimal (corrupted_count (history b)) ++ (codes " ended " ++ decimal ended))))))))

-- the bound of the passes of any repair of n machines, and the end of the line
abbrev pub end_words : ℕ → List ℕ
end_words n = codes " bound " ++ (decimal (bound n) ++ codes "\n")

-- the line of a ring
abbrev pub repairs_line : Block → List ℕ
repairs_line b =
    ring_words b (length (repairs_of b))
    ++ (some_words (spread_if (repairs_of b)) ++ end_words b.n)

-- the lines of all rings
abbrev pub repairs_lines : Content → List ℕ
repairs_lines c = flat_map repairs_line c.rings
