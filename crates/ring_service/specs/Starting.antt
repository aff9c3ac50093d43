-- Rings that resume where saved ones ended (this project's own).
use Rattle.std.specs.Prelude.{◌≡◌, ℕ, ◌<◌, List, [], ◌∷◌, length, map, slice_get, Some}
use Rattle.ring_model.specs.Ring.{ring_with}
use Rattle.ring_model.specs.Limits.{event_limit, seat_limit}
use Rattle.saved_history.specs.declared.saved.SavedRing.{SavedRing}
use Rattle.ring_check.specs.Table.{event_of}
use Rattle.ring_model.specs.declared.bases.Base.{Base}
use Rattle.ring_model.specs.Bases.{no_base}
use Rattle.one_thread_ring.specs.Texts.{surveys_told}
use Rattle.ring_service.specs.declared.starting.StartError.{StartError}
use Rattle.ring_service.specs.declared.starting.StartError.TheVariants as start
use Rattle.ring_service.specs.Standings.{Standing}

-- the ring is where the saved one ended, and this came before: it has its start, its history and
-- its surveys
pub record IsResumedAfter (b : Base) (r : Standing) (saved : SavedRing) : Type 0 where
  pub base : r.base ≡ b
  pub start : r.start ≡ ring_with saved.k saved.start.items
  pub history : r.history ≡ map event_of saved.events.items
  pub surveys : surveys_told r.clients ≡ saved.surveys.items
  pub seats : length r.clients ≡ seat_limit

-- the same, with nothing before
abbrev pub IsResumed : Standing → SavedRing → Type 0
IsResumed r saved = IsResumedAfter no_base r saved

-- each does, one by one
abbrev pub AreResumed : List Standing → List SavedRing → Type 0
AreResumed [] saved = saved ≡ []
AreResumed (r ∷ rs) [] = ⊥
AreResumed (r ∷ rs) (s ∷ saved) = IsResumed r s × AreResumed rs saved

-- each does, after the base at its place
abbrev pub AreResumedAfter : List Base → List Standing → List SavedRing → Type 0
AreResumedAfter bs [] saved = saved ≡ []
AreResumedAfter bs (r ∷ rs) [] = ⊥
AreResumedAfter [] (r ∷ rs) (s ∷ saved) = ⊥
AreResumedAfter (b ∷ bs) (r ∷ rs) (s ∷ saved) = IsResumedAfter b r s × AreResumedAfter bs rs saved

-- why they are not served, memory aside: some ring has too many events
abbrev pub IsStartFault : List SavedRing → StartError → Type 0
IsStartFault rings (start.Full number) =
    (i : ℕ)
    × (ring : SavedRing)
    × (slice_get rings i ≡ Some ring)
    × (number ≡ i)
    × (event_limit < length ring.events.items)
IsStartFault rings start.OutOfMemory = Unit {0}
