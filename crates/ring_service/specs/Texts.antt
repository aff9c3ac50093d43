-- The text with which the file of a segment begins (this project's own).
use Rattle.std.specs.Prelude.{◌≡◌, ℕ, ◌≤◌, ◌^◌, ◌⊎◌, List, ◌++◌, length}
use Rattle.journal.specs.Spelling.{journal_head}
use Rattle.segment_files.specs.Spelling.{head_text}
use Rattle.line_service.specs.declared.segmented.EndFault.{EndFault}
use Rattle.line_service.specs.declared.segmented.EndFault.TheVariants as end
use Rattle.ring_service.specs.Standings.{Standing}
use Rattle.ring_service.specs.Segments.{bases_of}
use Rattle.ring_service.specs.Saved.{content_of}

-- the head, with the number of the segment, the digest of the file before and the bases of the
-- rings; and the beginning of a journal of the rings
abbrev pub segment_text : ℕ → List ℕ → List Standing → List ℕ
segment_text number behind rings =
    head_text (record { number = number; behind = behind; bases = bases_of rings })
    ++ journal_head (content_of rings)

-- no segment begins with a text of these rings: there is none, or there are too many; or there is no
-- memory
abbrev pub HaveNoText : List Standing → EndFault → Type 0
HaveNoText rings why =
    ((why ≡ end.File) × ((length rings ≡ 0) ⊎ (2 ^ 32 ≤ length rings))) ⊎ (why ≡ end.OutOfMemory)
