-- How much the settings of a farm may ask for (this project's own limits).
use Rattle.std.specs.Prelude.{ℕ, ◌-◌}
use Rattle.ring_model.specs.Limits.{seat_limit}

-- the most rings of a farm
abbrev pub ring_limit : ℕ
ring_limit = 16

-- the most workers: the last seat is the injector's
abbrev pub worker_limit : ℕ
worker_limit = seat_limit - 1

-- the most actions of a seat
abbrev pub action_limit : ℕ
action_limit = 1000000
