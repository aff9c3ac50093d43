-- The effect of an operation on the list that is shown.
use Rattle.std.specs.Prelude.{ℕ, ◌+◌, ◌==◌, nat_lt, Bool, true, false, List, length}
use Rattle.ring_model.specs.declared.events.Event.{Event}

-- the list that an operation leads to, and whether it may be several events longer than the one
-- that is shown
pub record Target : Type 0 where
  pub list : List Event
  pub block : Bool

-- whether a list of m events is the next to show after one of n: one event longer, or longer at
-- all
abbrev pub is_next : Bool → ℕ → ℕ → Bool
is_next true n m = nat_lt n m
is_next false n m = m == n + 1

abbrev pub pick : Bool → List Event → List Event → List Event
pick true xs ys = xs
pick false xs ys = ys

-- the operation's list, where it is the next
abbrev pub stepped : List Event → Target → List Event
stepped xs o = pick (is_next o.block (length xs) (length o.list)) o.list xs
