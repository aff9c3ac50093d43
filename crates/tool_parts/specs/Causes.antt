-- The words for the faults of the libraries, as the line of a refusal has them.
use Rattle.std.specs.Prelude.{ℕ, List, ◌++◌, codes, cond}
use Rattle.std.specs.Fmt.{decimal}
use Rattle.std.specs.Str.{is_utf8}
use Rattle.ring_check.specs.Names.{kind_name}
use Rattle.ring_settings.specs.declared.faults.Field.{Field}
use Rattle.ring_settings.specs.declared.faults.Field.TheVariants as field
use Rattle.ring_settings.specs.declared.faults.RingCause.{RingCause}
use Rattle.ring_settings.specs.declared.faults.RingCause.TheVariants as cause
use Rattle.journal.specs.declared.errors.RecoverError.{RecoverError}
use Rattle.journal.specs.declared.errors.RecoverError.TheVariants as recover
use Rattle.segment_files.specs.declared.errors.SegmentError.{SegmentError}
use Rattle.segment_files.specs.declared.errors.SegmentError.TheVariants as segment
use Rattle.line_service.specs.declared.folder_errors.EntryName.{EntryName}
use Rattle.line_service.specs.SegmentNumbers.{shown}

-- why a ring cannot begin
abbrev pub cause_text : RingCause → List ℕ
cause_text cause.TooFew = codes "n is less than 2"
cause_text cause.TooMany = codes "n is more than 1024"
cause_text cause.FewValues = codes "k is less than n"
cause_text cause.ManyValues = codes "k is more than 65536"
cause_text cause.Length = codes "start does not have n values"
cause_text (cause.Value place) = codes "start value " ++ decimal place ++ codes " is not below k"

-- the name of a member of the settings
abbrev pub field_name : Field → List ℕ
field_name field.Top = codes "document"
field_name field.Rings = codes "rings"
field_name field.N = codes "n"
field_name field.K = codes "k"
field_name field.Start = codes "start"
field_name field.Workers = codes "workers"
field_name field.Injector = codes "injector"
field_name field.Script = codes "script"
field_name field.Seed = codes "seed"
field_name field.Actions = codes "actions"

-- what is wrong with a segment's file
abbrev pub file_text : SegmentError → List ℕ
file_text segment.Truncated = codes "truncated"
file_text (segment.Syntax line) = codes "line " ++ decimal line ++ codes ": syntax"
file_text (segment.Bad line kind) = codes "line " ++ decimal line ++ codes ": " ++ kind_name kind
file_text segment.Number = codes "number"
file_text segment.Behind = codes "behind"
file_text segment.Base = codes "base"
file_text segment.Start = codes "start"
file_text segment.Full = codes "full"
file_text segment.Unfinished = codes "unfinished"
file_text segment.OutOfMemory = codes "out of memory"

-- the fault of a segment's file that is the same as that of a journal's
abbrev pub of_journal : RecoverError → SegmentError
of_journal recover.Truncated = segment.Truncated
of_journal (recover.Syntax line) = segment.Syntax line
of_journal (recover.Bad line kind) = segment.Bad line kind
of_journal recover.OutOfMemory = segment.OutOfMemory

-- a name in a folder as far as it is shown, unless it is cut within a character
abbrev pub entry_text : EntryName → List ℕ
entry_text e = cond (is_utf8 (shown e)) (shown e) (codes "a name that is too long")
