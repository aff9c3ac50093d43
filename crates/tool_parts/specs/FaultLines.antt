-- The line on standard error for each refusal, without its end. A name in it stays on the line.
use Rattle.std.specs.Prelude.{ℕ, List, [], ◌++◌, codes}
use Rattle.std.specs.Fmt.{decimal}
use Rattle.ring_check.specs.Names.{kind_name}
use Rattle.ring_settings.specs.declared.faults.RingCause.TheVariants as cause
use Rattle.line_service.specs.SegmentNames.{segment_file}
use Rattle.tool_parts.specs.Causes.{cause_text, field_name, file_text, of_journal, entry_text}
use Rattle.tool_parts.specs.OneLine.{one_line}
use Rattle.tool_parts.specs.declared.faults.ToolError.{ToolError}
use Rattle.tool_parts.specs.declared.faults.ToolError.TheVariants as tool

-- of locks
abbrev pub locks_line : ToolError → List ℕ
locks_line (tool.Twice place) =
    codes "lock " ++ decimal place ++ codes " has the name of a lock before it"
locks_line (tool.NoLocks folder) =
    codes "no locks are named, and " ++ one_line folder.now ++ codes " has none"
locks_line (tool.NoLocksFile folder) =
    one_line folder.now ++ codes " has segments, but no file `locks`"
locks_line (tool.UnreadLocks folder) = codes "cannot read " ++ one_line folder.now ++ codes "/locks"
locks_line (tool.BadLocks folder) = one_line folder.now ++ codes "/locks is not a list of locks"
locks_line (tool.OtherLock folder place) =
    codes "lock " ++ decimal place ++ codes " in " ++ one_line folder.now
    ++ codes "/locks is another one"
locks_line (tool.OtherRing folder place) =
    codes "ring " ++ decimal place ++ codes " in " ++ one_line folder.now
    ++ codes " is not of the size in " ++ one_line folder.now ++ codes "/locks"
locks_line (tool.BadNames folder) =
    codes "the names in " ++ one_line folder.now ++ codes " are not those of its rings"
locks_line (tool.NoOpenHold name line) =
    one_line name.now ++ codes ": line " ++ decimal line ++ codes ": no open hold"
locks_line (tool.NoHold name lock at) =
    one_line name.now ++ codes ": lock " ++ decimal lock
    ++ codes ": not the history of a lock at " ++ decimal at
locks_line (tool.WrongNames folder number line why) =
    segment_file (one_line folder.now) number ++ codes ": line " ++ decimal line
    ++ codes ": name: " ++ one_line why.now
locks_line _ = []

-- of a folder of segments, or else of locks
abbrev pub folder_line : ToolError → List ℕ
folder_line (tool.SavesInJournal name) = one_line name.now ++ codes " is the folder of the journal"
folder_line (tool.NoSegment folder) = one_line folder.now ++ codes " has no segments"
folder_line (tool.Foreign folder name) =
    one_line folder.now ++ codes "/" ++ one_line (entry_text name) ++ codes ": foreign"
folder_line (tool.Irregular folder number) =
    segment_file (one_line folder.now) number ++ codes ": not a regular file"
folder_line (tool.Missing folder number) =
    segment_file (one_line folder.now) number ++ codes ": missing"
folder_line (tool.UnreadSegment folder number) =
    codes "cannot read " ++ segment_file (one_line folder.now) number
folder_line (tool.LargeSegment folder number) =
    segment_file (one_line folder.now) number ++ codes " is too large"
folder_line (tool.Segment folder number fault) =
    segment_file (one_line folder.now) number ++ codes ": " ++ file_text fault
folder_line (tool.Begins folder number) =
    one_line folder.now ++ codes " begins at segment " ++ decimal number
folder_line (tool.InFolder name) = one_line name.now ++ codes " is in the folder that is read"
folder_line e = locks_line e

-- of a file or a saved text, or else of what is in folders
abbrev pub file_line : ToolError → List ℕ
file_line (tool.Syntax line) = codes "line " ++ decimal line ++ codes ": syntax"
file_line (tool.Bad line kind) = codes "line " ++ decimal line ++ codes ": " ++ kind_name kind
file_line (tool.Read name) = codes "cannot read " ++ one_line name.now
file_line (tool.TooLarge name) = one_line name.now ++ codes " is too large"
file_line (tool.Save name) = codes "cannot write " ++ one_line name.now
file_line (tool.SameFile name) = one_line name.now ++ codes " is the file that is read"
file_line (tool.Stream name) = one_line name.now ++ codes " is the file of a standard stream"
file_line (tool.NoRing place) = codes "there is no ring " ++ decimal place
file_line (tool.InUse name) = one_line name.now ++ codes " is in use"
file_line (tool.Journal name fault) =
    one_line name.now ++ codes ": " ++ file_text (of_journal fault)
file_line (tool.Full place) = codes "ring " ++ decimal place ++ codes ": the history is full"
file_line (tool.NoPlace place) =
    codes "the ring has fewer than " ++ decimal place ++ codes " events"
file_line e = folder_line e

-- of words or settings, or else of files
abbrev pub valued_line : ToolError → List ℕ
valued_line tool.TooFew = cause_text cause.TooFew
valued_line tool.TooMany = cause_text cause.TooMany
valued_line tool.FewValues = cause_text cause.FewValues
valued_line tool.ManyValues = cause_text cause.ManyValues
valued_line tool.Length = cause_text cause.Length
valued_line (tool.Value place) = cause_text (cause.Value place)
valued_line (tool.Choice place) = codes "choice " ++ decimal place ++ codes " is not below n"
valued_line (tool.Shape field) =
    codes "settings: " ++ field_name field ++ codes " is missing or has the wrong shape"
valued_line (tool.Limit field) =
    codes "settings: " ++ field_name field ++ codes " is out of limits"
valued_line (tool.Ring place why) =
    codes "ring " ++ decimal place ++ codes ": " ++ cause_text why
valued_line (tool.Script seat place) =
    codes "seat " ++ decimal seat ++ codes ", action " ++ decimal place ++ codes ": not an action"
valued_line e = file_line e

-- the line of a refusal
abbrev pub line_of : ToolError → List ℕ
line_of tool.BadList = codes "bad list"
line_of tool.Json = codes "settings are not JSON"
line_of tool.Spawn = codes "a thread could not be started"
line_of tool.GateShut = codes "the gate was shut"
line_of tool.NoSeat = codes "no reader place"
line_of tool.HistoryFull = codes "a history is full"
line_of tool.Mismatch = codes "logs and history differ"
line_of tool.Truncated = codes "text is truncated"
line_of tool.Write = codes "cannot write"
line_of tool.OutOfMemory = codes "out of memory"
line_of tool.ManyDrawn = codes "a picture has at most 20000 events"
line_of tool.TotalsTooLarge = codes "the totals are too large"
line_of tool.NoHistory = codes "no history is given, and no journal tells of rings"
line_of tool.ManyLocks = codes "there are more than 1000000 locks"
line_of e = valued_line e
