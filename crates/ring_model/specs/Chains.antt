-- A history without end, as a chain of segments (this project's own).
use Rattle.std.specs.Prelude.{◌≡◌, ℕ, ◌+◌, List, [], ◌∷◌, ◌++◌, map, take}
use Rattle.ring_model.specs.Ring.{Ring}
use Rattle.ring_model.specs.History.{opening, after}
use Rattle.ring_model.specs.Resources.{till}
use Rattle.ring_model.specs.Groups.{IsHistory}
use Rattle.ring_model.specs.Logs.{IsSurvey, Fits}
use Rattle.ring_model.specs.declared.events.Event.{Event}
use Rattle.ring_model.specs.declared.events.Survey.{Survey}
use Rattle.ring_model.specs.declared.events.Entry.{Entry}
use Rattle.ring_model.specs.declared.events.Entry.TheVariants as entry
use Rattle.ring_model.specs.declared.bases.Base.{Base}
use Rattle.ring_model.specs.Bases.{state_from, shifted, is_quiet, shifted_survey, shifted_entry, base_after}

-- a segment of a ring's history: what came before it, the ring where it begins, and its events,
-- counted by themselves
pub record Segment : Type 0 where
  pub base : Base
  pub start : Ring
  pub history : List Event

-- A chain after a base, from a ring on: each segment begins where the one before it ends, and by
-- itself is a history of the one-thread ring over an empty till.
abbrev pub IsChainFrom : Base → Ring → List Segment → Type 0
IsChainFrom b r [] = Unit {0}
IsChainFrom b r (s ∷ ss) =
    (s.base ≡ b)
    × (s.start ≡ r)
    × IsHistory till (opening r 0) s.history
    × IsChainFrom (base_after b r s.history) (after till (opening r 0) s.history).ring ss

-- the history of a chain: the events of its segments, shifted, end to end
abbrev pub chain_history : List Segment → List Event
chain_history [] = []
chain_history (s ∷ ss) = shifted s.base s.history ++ chain_history ss

-- a client's logs, one for each segment, each of which fits its segment
abbrev pub AreLogs : ℕ → List Segment → List (List Entry) → Type 0
AreLogs seat [] logs = logs ≡ []
AreLogs seat (s ∷ ss) [] = ⊥
AreLogs seat (s ∷ ss) (log ∷ logs) =
    Fits till (opening s.start 0) s.history seat log × AreLogs seat ss logs

-- the client's log of the chain: the entries of these logs, shifted, end to end
abbrev pub chain_log : List Segment → List (List Entry) → List Entry
chain_log (s ∷ ss) (log ∷ logs) =
    map (λ (e : Entry). shifted_entry s.base s.history e) log ++ chain_log ss logs
chain_log _ _ = []

-- The survey is right for the events h after a base: it is a survey of them, whose position and
-- calm are shifted.
abbrev pub IsSurveyAfter : Base → Ring → List Event → Survey → Type 0
IsSurveyAfter b r h v =
    (s : Survey)
    × IsSurvey till (state_from b r) h s
    × (v ≡ shifted_survey b (is_quiet (take s.position h)) s)

-- an entry of a log of the events h after a base, whose position and calm are shifted
abbrev pub entry_after : Base → List Event → Entry → Entry
entry_after b h (entry.Receipt r) =
    entry.Receipt (record { position = b.events + r.position; event = r.event })
entry_after b h (entry.Survey s) =
    entry.Survey (shifted_survey b (is_quiet (take s.position h)) s)

-- A log fits the events h after a base: it is a log that fits them, whose positions and calms are
-- shifted.
abbrev pub FitsAfter : Base → Ring → List Event → ℕ → List Entry → Type 0
FitsAfter b r h seat log =
    (inner : List Entry)
    × Fits till (state_from b r) h seat inner
    × (log ≡ map (λ (e : Entry). entry_after b h e) inner)
