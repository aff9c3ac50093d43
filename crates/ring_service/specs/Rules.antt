-- The rules by which lines are answered: in a file, and in the segments of a folder (this project's
-- own).
use Rattle.std.specs.Prelude.{ℕ, ◌+◌, ◌≤◌, ◌^◌, List, Option, None, Some}
use Rattle.std.specs.Borrow.{Bor}
use Rattle.std.specs.Option.{option_map}
use Rattle.line_service.specs.SegmentNames.{segment_file}
use Rattle.ring_service.specs.declared.answers.Refusal.{Refusal}
use Rattle.ring_service.specs.declared.permits.Permits.{Permits}
use Rattle.ring_service.specs.declared.rules.JournalFile.{JournalFile}
use Rattle.ring_service.specs.declared.rules.JournalFile.TheVariants as journal_file
use Rattle.ring_service.specs.declared.rules.Rules.{Rules}
use Rattle.ring_service.specs.declared.chain_segments.ChainRules.{ChainRules}

-- ---- in a file

-- the file of this name, if there is one
abbrev pub named_file : Option (Bor (List ℕ)) → Option JournalFile
named_file name = option_map (λ n. journal_file.Named n) name

-- with a journal of this name, if one is kept: no segment ends, and no line is refused
abbrev pub file_rules : Option (Bor (List ℕ)) → Permits → Rules
file_rules name permits = record {
  journal = named_file name;
  permits = permits;
  limit = None;
  refusing = None;
}

-- ---- in the segments of a folder

-- the folder of the segments
abbrev pub folder_of : ChainRules → List ℕ
folder_of s = s.files.folder.now

-- the file of the segment of this number
abbrev pub file_of : ChainRules → ℕ → List ℕ
file_of s number = segment_file (folder_of s) number

-- in the segment of this number, where each line is refused so, if all are
abbrev pub segment_rules : ChainRules → ℕ → Option Refusal → Rules
segment_rules s number refusing = record {
  journal = Some (journal_file.Segment s.files.folder number);
  permits = s.permits;
  limit = Some s.limit;
  refusing = refusing;
}

-- a segment may have a line, if segments end
abbrev pub IsLimit : Option ℕ → Type 0
IsLimit None = Unit {0}
IsLimit (Some limit) = 1 ≤ limit

-- ---- in the next segment

-- the file of the journal is that of the next number
abbrev pub file_after : JournalFile → JournalFile
file_after (journal_file.Named name) = journal_file.Named name
file_after (journal_file.Segment folder number) = journal_file.Segment folder (number + 1)

-- and no line is refused
abbrev pub next_rules : Rules → Rules
next_rules rules = record {
  journal = option_map file_after rules.journal;
  permits = rules.permits;
  limit = rules.limit;
  refusing = None;
}

-- no number is left for it
abbrev pub HasNoNumber : Option JournalFile → Type 0
HasNoNumber (Some (journal_file.Segment folder number)) = 2 ^ 64 ≤ number + 1
HasNoNumber _ = ⊥
