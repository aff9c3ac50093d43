-- The privileged machines of a ring as a set of machines.
use Rattle.std.specs.Prelude.{◌≡◌, ℕ, ◌<◌, ◌&&◌, nat_lt, List, length}
use Rattle.ring_model.specs.Limits.{machine_limit}
use Rattle.ring_model.specs.Ring.{is_privileged}
use Rattle.machine_masks.specs.Members.{is_in}

-- just the privileged machines are in the set
abbrev pub AreMarked : List ℕ → List ℕ → Type 0
AreMarked s words =
    (i : ℕ) → i < machine_limit → is_in words i ≡ (nat_lt i (length s) && is_privileged s i)
