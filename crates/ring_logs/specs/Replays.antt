-- How a history is played again: the ring and the calm after each event, whatever the
-- resource.
use Rattle.std.specs.Prelude.{ℕ, ◌+◌, ◌<◌, cond, length}
use Rattle.ring_model.specs.Ring.{Ring, is_privileged, moved, written}
use Rattle.ring_model.specs.declared.events.Op.{Op}
use Rattle.ring_model.specs.declared.events.Op.TheVariants.{Pass, Member, Corrupt}
use Rattle.ring_model.specs.declared.events.Reply.{Reply}
use Rattle.ring_model.specs.declared.events.Reply.TheVariants.{Granted, NotPrivileged, Corrupted}

-- the call names a machine of the ring, and a value below K
abbrev pub IsCallOf : Ring → Op → Type 0
IsCallOf r (Pass i order) = i < length r.values
IsCallOf r (Member i order left) = i < length r.values
IsCallOf r (Corrupt i v) = (i < length r.values) × (v < r.k)

-- the machine that a call names
abbrev pub machine_of : Op → ℕ
machine_of (Pass i order) = i
machine_of (Member i order left) = i
machine_of (Corrupt i v) = i

-- the ring after a call
abbrev pub called : Ring → Op → Ring
called r (Pass i order) = cond (is_privileged r.values i) (moved r i) r
called r (Member i order left) = cond (is_privileged r.values i) (moved r i) r
called r (Corrupt i v) = written r i v

-- the calm after a reply
abbrev pub calm_after : ℕ → Reply → ℕ
calm_after calm (Granted number result) = calm + 1
calm_after calm NotPrivileged = calm
calm_after calm (Corrupted old) = 0
