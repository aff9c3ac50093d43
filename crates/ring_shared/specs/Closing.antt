-- The outcome of a closed ring.
use Rattle.std.specs.Prelude.{◌≡◌, ℕ, List, [], ◌∷◌, Some, slice_get}
use Rattle.ring_logs.specs.declared.logs.Log.{Log}
use Rattle.ring_shared.specs.Client.{Client}

-- the log is that of the client
abbrev pub IsLogOf : Client → Log → Type 0
IsLogOf s l = (l.seat ≡ s.number) × (l.entries.items ≡ s.log)

-- the client's log is at its number
abbrev pub HasLog : List Log → Client → Type 0
HasLog logs s = (l : Log) × (slice_get logs s.number ≡ Some l) × IsLogOf s l

-- each log is that of the seat with its index as number
abbrev pub AreNumbered : List Log → Type 0
AreNumbered logs = (i : ℕ) (l : Log) → slice_get logs i ≡ Some l → l.seat ≡ i

-- the logs are those of the clients, in their order
abbrev pub AreLogsOf : List Client → List Log → Type 0
AreLogsOf [] ls = ls ≡ []
AreLogsOf (s ∷ ss) [] = ⊥
AreLogsOf (s ∷ ss) (l ∷ ls) = IsLogOf s l × AreLogsOf ss ls
