-- The logs of the clients of a ring: the events of each in the history, and the surveys that it
-- keeps (this project's own).
use Rattle.std.specs.Prelude.{◌≡◌, ℕ, ◌+◌, ◌<◌, ◌≤◌, ◌==◌, cond, List, [], ◌∷◌, ◌++◌, All, map, drop, length, slice_index_or, slice_set}
use Rattle.std.specs.List.{slice_range}
use Rattle.ring_model.specs.declared.events.Event.{Event}
use Rattle.ring_model.specs.declared.events.Survey.{Survey}
use Rattle.ring_model.specs.declared.events.Entry.{Entry}
use Rattle.ring_model.specs.declared.events.Entry.TheVariants as entry
use Rattle.ring_logs.specs.LogView.{LogView}

-- a client by itself as contracts see it: its number, and the surveys that it was given, in order
pub record ClientView : Type 0 where
  pub number : ℕ
  pub surveys : List Survey

-- the receipts of a seat's own among events that follow one another in a history, from this
-- position on
abbrev pub receipts_by : ℕ → ℕ → List Event → List Entry
receipts_by seat position [] = []
receipts_by seat position (e ∷ es) =
    cond (e.seat == seat)
    (entry.Receipt (record { position = position; event = e }) ∷ receipts_by seat (position + 1) es)
    (receipts_by seat (position + 1) es)

-- a seat's log from a place of the history on: the receipts of its own events up to where its first
-- survey is, that survey, and so on; and the receipts after the last
abbrev pub log_from : ℕ → ℕ → List Event → List Survey → List Entry
log_from seat place h [] = receipts_by seat place (drop place h)
log_from seat place h (s ∷ ss) =
    receipts_by seat place (slice_range h place s.position)
    ++ entry.Survey s ∷ log_from seat s.position h ss

-- the log of a client, where this is the history
abbrev pub told_of : List Event → ClientView → LogView
told_of h c = record { number = c.number; log = log_from c.number 0 h c.surveys }

abbrev pub told_all : List Event → List ClientView → List LogView
told_all h cs = map (told_of h) cs

-- no survey is before this place or before the one that comes before it, and none after the
-- end
abbrev pub StandInOrder : ℕ → ℕ → List Survey → Type 0
StandInOrder place end [] = place ≤ end
StandInOrder place end (s ∷ ss) = (place ≤ s.position) × StandInOrder s.position end ss

-- so it is with the surveys of each client
abbrev pub AllStandInOrder : ℕ → List ClientView → Type 0
AllStandInOrder end cs = All (λ (c : ClientView). StandInOrder 0 end c.surveys) cs

-- n clients, each with its place as its number, that have no surveys
abbrev pub AreNew : ℕ → List ClientView → Type 0
AreNew count cs =
    (length cs ≡ count)
    × ((i : ℕ) (c : ClientView) → i < count
    → slice_index_or cs i c ≡ record { number = i; surveys = [] })

-- the clients, where the one of this number was given a survey more
abbrev pub with_survey_at : List ClientView → ℕ → Survey → List ClientView
with_survey_at cs seat s =
    let c : ClientView = slice_index_or cs seat (record { number = seat; surveys = [] }) in
    slice_set cs seat (record { number = c.number; surveys = c.surveys ++ s ∷ [] })
