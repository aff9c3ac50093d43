-- A ring that is saved, or whose file is handed out, and that is opened again (this project's own).
use Rattle.std.specs.Prelude.{◌≡◌, ℕ, ◌<◌, List, length, slice_index_or}
use Rattle.ring_model.specs.Resources.{till}
use Rattle.ring_logs.specs.LogView.{LogView}
use Rattle.one_thread_ring.specs.Rings.{RingView, IsOneThreadRing}
use Rattle.one_thread_ring.specs.Texts.{surveys_told}
use Rattle.endless_ring.specs.Files.{FilesView, IsFiled, IsFileText}
use Rattle.c_calls.specs.Answers.{IsSavedText}
use Rattle.c_calls.specs.Resumed.{IsResumedFrom}
use Rattle.c_calls.specs.Sealed.{IsGoneOn}

-- The second ring is the first one again: with the same start, the same history and the same
-- surveys, and each seat that both have is the same client, with the same log.
pub record IsBackAs (d e : RingView ℕ) : Type 0 where
  pub start : e.book.start ≡ d.book.start
  pub history : e.book.history ≡ d.book.history
  pub surveys : surveys_told e.clients ≡ surveys_told d.clients
  pub clients : (seat : ℕ) (c : LogView) → seat < length d.clients → seat < length e.clients
      → slice_index_or e.clients seat c ≡ slice_index_or d.clients seat c

-- Whatever is opened from the saved text of a ring is that ring again, which is the text's only
-- one.
abbrev pub SavesComeBack : Type 0
SavesComeBack =
    (d e : RingView ℕ) (bytes : List ℕ) (place seats : ℕ) → IsOneThreadRing till 0 d
    → IsSavedText d bytes → IsResumedFrom bytes place seats e → (place ≡ 0) × IsBackAs d e

-- Whatever resumes the file of a ring's segment, as its journal begins or as it is sealed, is
-- that ring again, in the same file and after the same base.
abbrev pub FilesComeBack : Type 0
FilesComeBack =
    (d e : FilesView) (bytes : List ℕ) (seats : ℕ) → IsFiled d → IsFileText d bytes
    → IsGoneOn bytes seats e
    → (e.place ≡ d.place) × (e.ring.base ≡ d.ring.base) × IsBackAs d.ring.ring e.ring.ring
