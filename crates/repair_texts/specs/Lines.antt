-- The lines of repairs that were measured (this project's own).
use Rattle.std.specs.Prelude.{ℕ, ◌+◌, ◌/◌, ◌%◌, Bool, cond, nat_lt, ◌==◌, List, [], ◌∷◌, ◌++◌, codes, decimal, Option, None, Some}
use Rattle.std.specs.List.{flat_map}
use Rattle.repair_texts.specs.declared.fields.Field.{Field}
use Rattle.repair_texts.specs.declared.lines.Head.{Head}
use Rattle.repair_texts.specs.declared.lines.Figures.{Figures}

-- a number after its name
abbrev pub named_text : List ℕ × ℕ → List ℕ
named_text f = f.0 ++ decimal f.1

abbrev pub field_text : Field → List ℕ
field_text f = named_text (f.name.now, f.number)

-- where a repair begins
abbrev pub start_text : List ℕ → Option ℕ → List ℕ
start_text start None = start
start_text start (Some faults) = start ++ (codes ":" ++ decimal faults)

-- what was measured, and the size of the ring
abbrev pub size_text : Head → List ℕ
size_text h =
    h.measure.now ++ (codes " " ++ (decimal h.n ++ (codes " " ++ (decimal h.k
    ++ (codes " daemon " ++ (h.daemon.now ++ codes " from "))))))

-- the words at which a line begins
abbrev pub head_text : Head → List ℕ
head_text h = size_text h ++ start_text h.start.now h.faults

-- the name of the number of the longest repairs: from 4 machines on one takes as many
abbrev pub longest_name : ℕ → List ℕ
longest_name n = cond (nat_lt n 4) (codes " long ") (codes " sharp ")

-- the numbers of a line; the mean, which is in hundredths, with a point and two digits after it
abbrev pub figures_of : ℕ → Figures → List (List ℕ × ℕ)
figures_of n f =
    (codes " trials ", f.trials)
    ∷ (codes " bound ", f.bound)
    ∷ (longest_name n, f.longest)
    ∷ (codes " least ", f.least)
    ∷ (codes " mean ", f.mean / 100)
    ∷ (codes ".", f.mean / 10 % 10)
    ∷ ([], f.mean % 10)
    ∷ (codes " median ", f.median)
    ∷ (codes " p90 ", f.p90)
    ∷ (codes " p99 ", f.p99)
    ∷ (codes " p999 ", f.p999)
    ∷ (codes " greatest ", f.greatest)
    ∷ []

-- the line of the figures of a size
abbrev pub figures_text : Head → Figures → List ℕ
figures_text h f = head_text h ++ (flat_map named_text (figures_of h.n f) ++ codes "\n")

-- the line of a number that occurred, and of how many trials had it
abbrev pub count_text : List ℕ → ℕ → ℕ → ℕ → ℕ → List ℕ
count_text unit n k number trials =
    codes "histogram " ++ (decimal n ++ (codes " " ++ (decimal k ++ (codes " " ++ (unit
    ++ (codes " " ++ (decimal number ++ (codes " trials " ++ (decimal trials ++ codes "\n")))))))))

-- the line of a number, if it occurred
abbrev pub one_text : List ℕ → ℕ → ℕ → ℕ → ℕ → List ℕ
one_text unit n k number trials = cond (trials == 0) [] (count_text unit n k number trials)

-- the lines of the numbers from one on, each with how many trials had it; none of one that no trial
-- had
abbrev pub counts_from : List ℕ → ℕ → ℕ → ℕ → List ℕ → List ℕ
counts_from unit n k number [] = []
counts_from unit n k number (trials ∷ more) =
    one_text unit n k number trials ++ counts_from unit n k (number + 1) more
