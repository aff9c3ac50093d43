-- The promises of the threads of a ring, and the values that they hand back.
use Rattle.std.specs.Prelude.{◌≡◌, ℕ, List, All, length}
use Rattle.ring_model.specs.Ring.{Ring}
use Rattle.ring_settings.specs.declared.actions.Plan.{Plan}
use Rattle.ring_shared.specs.Client.{Client, IsUnchanged}
use Rattle.ring_shared.specs.Opening.{AreFresh}
use Rattle.ring_farm.specs.declared.threads.Does.{Does}
use Rattle.ring_farm.specs.Plans.{Pairs, HasDone, IsShort, IsPlanOn}

-- the promise is that of the seat with this number, for this plan
abbrev pub IsPromised : ℕ → ℕ → Plan → Does → Type 0
IsPromised ring i p d = (d.ring ≡ ring) × (d.number ≡ i) × (d.plan.value ≡ p)

-- the seat did the part of the plan that it has by its number
abbrev pub IsDone : ℕ → ℕ → Plan → Client → Type 0
IsDone ring i p s = HasDone ring i p.actions.items s.number s.log

-- the seat did what was promised of it
abbrev pub DidAsPromised : ℕ → Does → Client → Type 0
DidAsPromised i d s = IsDone d.ring d.number d.plan.value s

-- seats for these plans, numbered in their order and with nothing done, on a ring that each plan's
-- part can be made on
abbrev pub AreReady : ℕ → Ring → List Plan → List Client → Type 0
AreReady ring start plans seats =
    All IsShort plans
    × All (IsPlanOn ring start) plans
    × AreFresh (length plans) seats

-- the seats are as they were, with no less room in their logs
abbrev pub AreUnchanged : List Client → List Client → Type 0
AreUnchanged before after =
    (length after ≡ length before) × Pairs (λ i s t. IsUnchanged s t) before after
