-- The saved text of a ring that is called by numbers (this project's own).
use Rattle.std.specs.Prelude.{◌≡◌, ℕ, List, [], ◌∷◌, map}
use Rattle.std.specs.List.{flat_map}
use Rattle.ring_logs.specs.LogView.{LogView}
use Rattle.saved_history.specs.declared.saved.SavedSurvey.{SavedSurvey}
use Rattle.saved_history.specs.Content.{Block, Content}
use Rattle.saved_history.specs.Spelling.{text}
use Rattle.saved_history.specs.Versions.{latest_version}
use Rattle.ring_check.specs.Legal.{IsLegalText}
use Rattle.one_thread_ring.specs.SavedOf.{saved_survey, entry_surveys, block_by}
use Rattle.one_thread_ring.specs.Clients.{ClientView}
use Rattle.one_thread_ring.specs.Rings.{RingView}

-- the surveys in the saved text of a ring: those of its clients' logs, client by client
abbrev pub surveys_told : List LogView → List SavedSurvey
surveys_told cs = flat_map (λ (c : LogView). entry_surveys c.number c.log) cs

-- the same, by the surveys that each client keeps
abbrev pub client_surveys : ClientView → List SavedSurvey
client_surveys c = map (saved_survey c.number) c.surveys

abbrev pub surveys_kept : List ClientView → List SavedSurvey
surveys_kept cs = flat_map client_surveys cs

-- the block of a ring at its place: its start, its history, and the surveys of its clients' logs,
-- client by client
abbrev pub saved_block : ℕ → RingView ℕ → Block
saved_block place d = block_by place d.book.start d.book.history (surveys_told d.clients)

-- the saved text of a ring by itself, in the latest version
abbrev pub saved_alone : RingView ℕ → Content
saved_alone d = record { version = latest_version; rings = saved_block 0 d ∷ []; rings_said = 1 }

-- the bytes are the saved text of the ring, and that text is legal
pub record IsTextOf (d : RingView ℕ) (bytes : List ℕ) : Type 0 where
  pub spelled : bytes ≡ text (saved_alone d)
  pub legal : IsLegalText (saved_alone d)
