-- How large rings and histories may be (this project's own limits).
use Rattle.std.specs.Prelude.{ℕ}

-- the most machines of a ring
abbrev pub machine_limit : ℕ
machine_limit = 1024

-- the most values that a machine can have
abbrev pub value_limit : ℕ
value_limit = 65536

-- the most events of a history
abbrev pub event_limit : ℕ
event_limit = 4000000

-- the most seats of a ring, whose numbers are below it
abbrev pub seat_limit : ℕ
seat_limit = 10
