-- How trials are split among threads (this project's own way).
use Rattle.std.specs.Prelude.{◌≡◌, ℕ, ◌+◌, ◌-◌, ◌*◌, ◌/◌, ◌<◌, ◌≤◌}

-- the most threads that may be asked for
abbrev pub thread_limit : ℕ
thread_limit = 64

-- as many threads as may be asked for
pub record AreThreads (threads : ℕ) : Type 0 where
  pub some : 0 < threads
  pub few : threads ≤ thread_limit

-- how many of the trials come before the part at a place, where the parts are as equal as they
-- can be
abbrev pub before : ℕ → ℕ → ℕ → ℕ
before trials parts place = place * trials / parts

-- how many trials the part at a place has
abbrev pub share : ℕ → ℕ → ℕ → ℕ
share trials parts place = before trials parts (place + 1) - before trials parts place
