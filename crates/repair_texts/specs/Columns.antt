-- What a line says as a record of a table, and as an object (this project's own).
use Rattle.std.specs.Prelude.{ℕ, ◌++◌, List, [], ◌∷◌, codes, decimal, map, Option, None, Some}
use Rattle.std.specs.List.{flat_map}
use Rattle.csv.specs.Writing.{default_writer, row_text}
use Rattle.serde_json.specs.Data.{Data, Members, no_members, number, unsigned, string, object, put}
use Rattle.serde_json.specs.Written.{compact_text}
use Rattle.repair_texts.specs.declared.columns.Number.{Number}
use Rattle.repair_texts.specs.declared.columns.Row.{Row}
use Rattle.repair_texts.specs.declared.columns.Word.{Word}
use Rattle.repair_texts.specs.declared.lines.Head.{Head}

-- a word or a number, after its name
abbrev pub word_of : Word → List ℕ × List ℕ
word_of w = (w.name.now, w.word.now)

abbrev pub number_of : Number → List ℕ × ℕ
number_of n = (n.name.now, n.number)

-- how many faults there are at the start, 0 where none are asked for
abbrev pub faults_of : Option ℕ → ℕ
faults_of None = 0
faults_of (Some faults) = faults

-- the words of a row: what was measured, who moves next, where a repair begins
abbrev pub words_of : Head → List (List ℕ × List ℕ)
words_of h =
    (codes "measure", h.measure.now)
    ∷ (codes "daemon", h.daemon.now)
    ∷ (codes "from", h.start.now)
    ∷ []

-- the numbers of a row; the mean is in hundredths
abbrev pub numbers_of : Row → List (List ℕ × ℕ)
numbers_of r =
    (codes "n", r.head.n)
    ∷ (codes "k", r.head.k)
    ∷ (codes "faults", faults_of r.head.faults)
    ∷ (codes "trials", r.figures.trials)
    ∷ (codes "bound", r.figures.bound)
    ∷ (codes "longest", r.figures.longest)
    ∷ (codes "least", r.figures.least)
    ∷ (codes "mean_hundredths", r.figures.mean)
    ∷ (codes "median", r.figures.median)
    ∷ (codes "p90", r.figures.p90)
    ∷ (codes "p99", r.figures.p99)
    ∷ (codes "p999", r.figures.p999)
    ∷ (codes "greatest", r.figures.greatest)
    ∷ []

-- the names of the columns
abbrev pub names : List (List ℕ)
names =
    codes "measure"
    ∷ codes "daemon"
    ∷ codes "from"
    ∷ codes "n"
    ∷ codes "k"
    ∷ codes "faults"
    ∷ codes "trials"
    ∷ codes "bound"
    ∷ codes "longest"
    ∷ codes "least"
    ∷ codes "mean_hundredths"
    ∷ codes "median"
    ∷ codes "p90"
    ∷ codes "p99"
    ∷ codes "p999"
    ∷ codes "greatest"
    ∷ []

-- the first record of a table
unfoldable pub heading : List ℕ
heading = row_text default_writer names

-- the record of a row
unfoldable pub record_of : Row → List ℕ
record_of r =
    row_text default_writer
    (map (λ w. w.1) (words_of r.head) ++ map (λ n. decimal n.1) (numbers_of r))

-- a table of rows
abbrev pub table_of : List Row → List ℕ
table_of rows = heading ++ flat_map record_of rows

-- an object with these words, and with these numbers, each under its name
abbrev pub with_words : List (List ℕ × List ℕ) → Members → Members
with_words [] ms = ms
with_words (w ∷ ws) ms = with_words ws (put w.0 (string w.1) ms)

abbrev pub with_numbers : List (List ℕ × ℕ) → Members → Members
with_numbers [] ms = ms
with_numbers (n ∷ ns) ms = with_numbers ns (put n.0 (number (unsigned n.1)) ms)

-- the object of a row
unfoldable pub members_of : Row → Members
members_of r = with_numbers (numbers_of r) (with_words (words_of r.head) no_members)

-- its text
unfoldable pub object_of : Row → List ℕ
object_of r = compact_text (object (members_of r))
