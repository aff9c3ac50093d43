-- A step determined by its call: the calls in range, and the step that each of them has.
use Rattle.std.specs.Prelude.{◌≡◌, ℕ, ◌<◌, true, List, length}
use Rattle.ring_model.specs.Ring.{Ring, is_privileged}
use Rattle.ring_model.specs.Runs.{after_passes, granted_passes, AreBelow}
use Rattle.ring_model.specs.History.{Works, State, Step, next, reply, after, IsLegal}
use Rattle.ring_model.specs.Surveys.{corrupted_count}
use Rattle.ring_model.specs.Grants.{asked_machines, granted_machines}
use Rattle.ring_model.specs.declared.events.Op.{Op}
use Rattle.ring_model.specs.declared.events.Op.TheVariants.{Pass, Member, Corrupt}
use Rattle.ring_model.specs.declared.events.Event.{Event}

-- a call in range: it names a machine of the ring, a member's one that is privileged, and a
-- corruption a value below K
abbrev pub IsInRange : Ring → Op → Type 0
IsInRange r (Pass i order) = i < length r.values
IsInRange r (Member i order left) = (i < length r.values) × (is_privileged r.values i ≡ true)
IsInRange r (Corrupt i v) = (i < length r.values) × (v < r.k)

-- a step is a call in range with the reply and the next state that the call determines
abbrev pub StepsAreCalls : Type 0 → Type 0
StepsAreCalls C =
    (w : Works C) (a : State C) (e : Event) (b : State C) → Step w a e b
    → IsInRange a.ring e.op × (e.reply ≡ reply w a e.op) × (b ≡ next w a e.op)

-- and each call in range, whoever makes it, has that step
abbrev pub CallsHaveSteps : Type 0 → Type 0
CallsHaveSteps C = (w : Works C) (a : State C) (seat : ℕ) (o : Op) → IsInRange a.ring o →
    Step w a (record { seat = seat; op = o; reply = reply w a o }) (next w a o)

-- a legal history without a corruption is the run of the machines that its passes ask for: the same
-- ring, the same grants
abbrev pub HistoriesAreRuns : Type 0 → Type 0
HistoriesAreRuns C =
    (w : Works C) (a : State C) (h : List Event) → IsLegal w a h → corrupted_count h ≡ 0
    → AreBelow (length a.ring.values) (asked_machines h)
    × ((after w a h).ring ≡ after_passes a.ring (asked_machines h))
    × (granted_machines h ≡ granted_passes a.ring (asked_machines h))

-- and each run of choices is such a history, whoever makes its calls and on whatever order
abbrev pub RunsAreHistories : Type 0 → Type 0
RunsAreHistories C =
    (w : Works C) (a : State C) (seat order : ℕ) (choices : List ℕ)
    → AreBelow (length a.ring.values) choices
    → (h : List Event) × IsLegal w a h × (corrupted_count h ≡ 0) × (asked_machines h ≡ choices)
