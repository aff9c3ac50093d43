-- The maximal runs of columns at which a test holds, and the text written column by column (this
-- project's own).
use Rattle.std.specs.Prelude.{◌≡◌, ℕ, zero, suc, ◌+◌, ◌<◌, nat_lt, nat_le, ◌&&◌, Bool, cond, List, [], ◌∷◌, ◌++◌}
use Rattle.std.specs.List.{list_any}

-- columns from one on up to another, which is not among them
pub record Stretch : Type 0 where
  pub begin : ℕ
  pub end : ℕ

-- where the run begins that ends after a column, from where the one before it does
abbrev pub begin_after : ℕ → ℕ → Bool → ℕ
begin_after begin c passes = cond passes begin (c + 1)

-- where the run begins that ends before a column: that column itself where the test fails at the
-- one before
abbrev pub run_begin : (ℕ → Bool) → ℕ → ℕ
run_begin p zero = 0
run_begin p (suc c) = begin_after (run_begin p c) c (p c)

-- a run of columns, none where it has no column
abbrev pub run_from : ℕ → ℕ → List Stretch
run_from begin end = cond (nat_lt begin end) (record { begin = begin; end = end } ∷ []) []

-- the same where a column ends it, at which the test fails
abbrev pub ended_from : ℕ → ℕ → Bool → List Stretch
ended_from begin c passes = cond passes [] (run_from begin c)

-- the run that ends before a column
abbrev pub run_before : (ℕ → Bool) → ℕ → List Stretch
run_before p c = run_from (run_begin p c) c

-- the run that a column ends: at which the test fails
abbrev pub run_ended : (ℕ → Bool) → ℕ → List Stretch
run_ended p c = ended_from (run_begin p c) c (p c)

-- the runs that some of the first n columns end
abbrev pub runs_ended : (ℕ → Bool) → ℕ → List Stretch
runs_ended p zero = []
runs_ended p (suc c) = runs_ended p c ++ run_ended p c

-- the runs of n columns
abbrev pub stretches : (ℕ → Bool) → ℕ → List Stretch
stretches p columns = runs_ended p columns ++ run_before p columns

-- whether a column is one of a stretch
abbrev pub covers : ℕ → Stretch → Bool
covers c s = nat_le s.begin c && nat_lt c s.end

-- Of n columns, one is in some stretch exactly where the test holds.
abbrev pub StretchesCover : Type 0
StretchesCover =
    (p : ℕ → Bool) (columns c : ℕ) → c < columns → list_any (covers c) (stretches p columns) ≡ p c

-- one text for each of n columns, one after the other
abbrev pub pieces : (ℕ → List ℕ) → ℕ → List ℕ
pieces f zero = []
pieces f (suc c) = pieces f c ++ f c
