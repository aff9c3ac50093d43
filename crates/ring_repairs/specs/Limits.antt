-- How much may be tried (this project's own limits).
use Rattle.std.specs.Prelude.{ℕ}

-- the most trials of a study
abbrev pub trial_limit : ℕ
trial_limit = 10000000000

-- the most states that are gone through
abbrev pub state_limit : ℕ
state_limit = 100000000

-- the most numbers of a histogram: the longest repair of the most machines has one pass less
abbrev pub number_limit : ℕ
number_limit = 1570304
