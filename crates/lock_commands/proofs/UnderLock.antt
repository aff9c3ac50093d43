-- The folder is locked as long as lines are served.
use Rattle.std.proofs.Common.{◌≡◌, ℕ, List, Option, None, Some, inl, inr}
use Rattle.std.specs.Prelude.{IsSome}
use Rattle.disks.specs.Held.{Held}
use Rattle.line_service.specs.SegmentNames.{segment_file}
use Rattle.folder_of_locks.specs.Holders.{Hold}
use Rattle.folder_of_locks.specs.Lists.{Listed, file_text}
use Rattle.folder_of_locks.specs.Folders.{Place, AreStarted, IsListSaved, locks_file}
use Rattle.lock_service.specs.Serving.{IsServed}
use Rattle.lock_service.specs.State.{state_lines}
use Rattle.line_replica.specs.Replies.{IsReplied}
use Rattle.line_replica.specs.State.{lines_of}
use Rattle.line_replica.specs.Knows.{replied_leads}
use Rattle.line_replica.specs.Restoring.{restored_leads}
use Rattle.line_service.specs.Segments.{Moment}
use Rattle.line_service.specs.Service.{Part, AreParts}
use Rattle.tool_parts.specs.declared.requests.LocksWords.{LocksWords}
use Rattle.tool_parts.specs.Locking.{IsLocked, StandsLocked}
use Rattle.tool_parts.proofs.LockedFolders.{Stands, stands_locked, same_locked, put_locked, settled_locked, gone_locked, if_held}
use Rattle.lock_life.specs.Runs.{Service, answering, by_segments}
use Rattle.lock_commands.specs.Locks.{folder_of, list_of, HasStarted, IsRun, IsRunRefused, AreUnderLock, StaysLocked}
use Rattle.tool_parts.specs.declared.faults.ToolError.{ToolError}
use Rattle.lock_commands.proofs.ServedLocked.{ChangesNoFile}
use Rattle.lock_commands.proofs.ServedLocked as served

-- ---- no line changes a file

line_same : ChangesNoFile answering
line_same =
    restored_leads (IsReplied IsServed) (lines_of state_lines) (λ was is. is ≡ was) (λ was is e. e)
    (replied_leads IsServed (λ was is. is ≡ was) (λ was is e. e) (λ old new was is line said noted a. a.files))

abbrev parts_stand : (folder : List ℕ) (a b : Moment Service) (ps : List (Part Service)) → AreParts answering by_segments folder a ps b → Stands a.files a.journal folder → Stands b.files b.journal folder
parts_stand folder = served.parts_stand answering by_segments line_same folder

-- ---- from the start on

saved_locked : (folder : List ℕ) (word : Option (List ℕ)) (locks : List Listed) (before after : Option Held) → IsListSaved folder word locks before after → StandsLocked before folder → StandsLocked after folder
saved_locked folder None locks before after same l = same_locked before after folder same l
saved_locked folder (Some word) locks before after put l = put_locked before after folder (locks_file folder) (file_text locks) put l

-- the first segment has begun
begun_stands : (words : LocksWords) (holders : List Hold) (start : Place) (before there listed : Option Held) → IsLocked before there (folder_of words) → AreStarted (folder_of words) (list_of words) holders there listed start → IsSome before
    → (first : Moment Service) → HasStarted words start listed first → Stands first.files first.journal (folder_of words)
begun_stands words holders start before there listed locked started some first begun =
    let folder = folder_of words in
    let file = begun.begun.file in
    let held = saved_locked folder (list_of words) started.started.locks there listed started.started.saved (stands_locked before there folder locked some) in
    let text = by_segments.text begun.service start.number start.behind in
    (put_locked listed first.files folder (segment_file folder start.number) text file.put held, text, if_held listed folder (first.journal ≡ Some text) held file.journal)

pub under_lock : (words : LocksWords) (holders : List Hold) (start : Place) (end : Service) (before there listed after : Option Held) (was is old new : Option (List ℕ)) → IsLocked before there (folder_of words) → AreStarted (folder_of words) (list_of words) holders there listed start
    → (run : IsRun words start end listed after was is old new) → IsSome before → AreUnderLock (folder_of words) run.served.parts
under_lock words holders start end before there listed after was is old new locked started run some =
    served.parts_locked answering by_segments line_same (folder_of words) run.first run.last run.served.parts run.served.served
    (begun_stands words holders start before there listed locked started some run.first run.started)

-- ---- when it ends

pub still_locked : (words : LocksWords) (holders : List Hold) (start : Place) (end : Service) (before there listed after : Option Held) (was is old new : Option (List ℕ)) → IsLocked before there (folder_of words) → AreStarted (folder_of words) (list_of words) holders there listed start
    → IsRun words start end listed after was is old new → IsSome before → StandsLocked after (folder_of words)
still_locked words holders start end before there listed after was is old new locked started run some =
    let folder = folder_of words in
    let last = parts_stand folder run.first run.last run.served.parts run.served.served (begun_stands words holders start before there listed locked started some run.first run.started) in
    settled_locked run.last.files after folder (segment_file folder run.last.number) last.1 run.last.journal last.2 run.settled last.0

pub refused_locked : (words : LocksWords) (holders : List Hold) (start : Place) (before there listed after : Option Held) (was is old new : Option (List ℕ)) (e : ToolError) → IsLocked before there (folder_of words) → AreStarted (folder_of words) (list_of words) holders there listed start
    → IsSome before → IsRunRefused words start listed after was is old new e → StaysLocked words after was is old new
refused_locked words holders start before there listed after was is old new e locked started some (inl h) = inl h.0
refused_locked words holders start before there listed after was is old new e locked started some (inr (first, begun, inl broken)) =
    let folder = folder_of words in
    let s = broken.served in
    inr (served.stopped_locked answering by_segments line_same folder s.mid broken.end after s.before new s.behind s.stopped
    (parts_stand folder first s.mid s.parts s.served (begun_stands words holders start before there listed locked started some first begun)))
refused_locked words holders start before there listed after was is old new e locked started some (inr (first, begun, inr (last, served, gone, named))) =
    let folder = folder_of words in
    let last_stands = parts_stand folder first last served.parts served.served (begun_stands words holders start before there listed locked started some first begun) in
    inr (gone_locked last.files after folder (segment_file folder last.number) last_stands.1 last.journal last_stands.2 gone last_stands.0)
