-- The folder is locked as long as lines about names are served.
use Rattle.std.proofs.Common.{◌≡◌, ℕ, List, Option, None, Some, inl, inr}
use Rattle.std.specs.Prelude.{IsSome}
use Rattle.disks.specs.Held.{Held}
use Rattle.line_service.specs.SegmentNames.{segment_file}
use Rattle.line_service.specs.Segments.{Moment}
use Rattle.line_service.specs.Service.{Part, AreParts}
use Rattle.line_replica.specs.Replies.{IsReplied}
use Rattle.line_replica.specs.State.{lines_of}
use Rattle.line_replica.specs.Knows.{replied_leads}
use Rattle.line_replica.specs.Restoring.{restored_leads}
use Rattle.folder_of_locks.specs.Holders.{Hold}
use Rattle.folder_of_locks.specs.Pools.{Pooled, pooled_text}
use Rattle.folder_of_locks.specs.Folders.{locks_file}
use Rattle.folder_of_locks.specs.NameFolders.{NamePlace, AreNamesStarted, IsPooledSaved}
use Rattle.name_service.specs.Serving.{IsNameServed}
use Rattle.name_service.specs.State.{name_state_lines}
use Rattle.tool_parts.specs.declared.requests.LocksWords.{LocksWords}
use Rattle.tool_parts.specs.declared.faults.ToolError.{ToolError}
use Rattle.tool_parts.specs.Locking.{IsLocked, StandsLocked}
use Rattle.tool_parts.proofs.LockedFolders.{Stands, stands_locked, same_locked, put_locked, settled_locked, gone_locked, if_held, is_known}
use Rattle.lock_commands.specs.Locks.{folder_of, list_of, StaysLocked}
use Rattle.lock_commands.specs.NamesStarted.{NamesService, names_answering, names_by_segments, HasBegunFrom, NamesHaveStarted}
use Rattle.lock_commands.specs.NameRuns.{IsNamesRun, IsNamesRunRefused, NamesAreUnderLock}
use Rattle.lock_commands.proofs.ServedLocked.{ChangesNoFile}
use Rattle.lock_commands.proofs.ServedLocked as served

-- ---- no line changes a file

pub names_line_same : ChangesNoFile names_answering
names_line_same =
    restored_leads (IsReplied IsNameServed) (lines_of name_state_lines) (λ was is. is ≡ was) (λ was is e. e)
    (replied_leads IsNameServed (λ was is. is ≡ was) (λ was is e. e) (λ old new was is line said noted a. a.files))

abbrev parts_stand : (folder : List ℕ) (a b : Moment NamesService) (ps : List (Part NamesService)) → AreParts names_answering names_by_segments folder a ps b → Stands a.files a.journal folder → Stands b.files b.journal folder
parts_stand folder = served.parts_stand names_answering names_by_segments names_line_same folder

-- files that are known stay so, and a folder that is locked
pub parts_known : (folder : List ℕ) (a b : Moment NamesService) (ps : List (Part NamesService)) → AreParts names_answering names_by_segments folder a ps b → Stands a.files a.journal folder → StandsLocked b.files folder
parts_known folder a b ps h s = (parts_stand folder a b ps h s).0

-- ---- from the start on

saved_locked : (folder : List ℕ) (word : Option (List ℕ)) (l : Pooled) (before after : Option Held) → IsPooledSaved folder word l before after → StandsLocked before folder → StandsLocked after folder
saved_locked folder None l before after same locked = same_locked before after folder same locked
saved_locked folder (Some word) l before after put locked = put_locked before after folder (locks_file folder) (pooled_text l) put locked

-- the first segment whose lines are served has begun
begun_from : (folder : List ℕ) (number : ℕ) (behind : List ℕ) (lines : Option (List ℕ)) (service : NamesService) (files : Option Held) (first : Moment NamesService) → HasBegunFrom folder number behind lines service files first →
    StandsLocked files folder → Stands first.files first.journal folder
begun_from folder number behind None service files first begun held =
    let text = names_by_segments.text service number behind in
    (put_locked files first.files folder (segment_file folder number) text begun.file.put held, text, if_held files folder (first.journal ≡ Some text) held begun.file.journal)
begun_from folder number behind (Some lines) service files first begun held =
    let mid = begun.mid in
    parts_stand folder mid first begun.ended.2.parts begun.ended.2.served
    (put_locked files mid.files folder (segment_file folder number) lines begun.put.put held, lines, if_held files folder (mid.journal ≡ Some lines) held begun.put.journal)

begun_stands : (words : LocksWords) (holders : List Hold) (start : NamePlace) (before there listed : Option Held) → IsLocked before there (folder_of words) → AreNamesStarted (folder_of words) (list_of words) words.most_names holders there listed start → IsSome before
    → (first : Moment NamesService) → NamesHaveStarted words start listed first → Stands first.files first.journal (folder_of words)
begun_stands words holders start before there listed locked started some first begun =
    let folder = folder_of words in
    let held = saved_locked folder (list_of words) started.started.list there listed started.started.saved (stands_locked before there folder locked some) in
    begun_from folder start.number start.behind begun.lines begun.service listed first begun.begun held

pub names_under_lock : (words : LocksWords) (holders : List Hold) (start : NamePlace) (end : NamesService) (before there listed after : Option Held) (was is old new : Option (List ℕ)) → IsLocked before there (folder_of words)
    → AreNamesStarted (folder_of words) (list_of words) words.most_names holders there listed start
    → (run : IsNamesRun words start end listed after was is old new) → IsSome before → NamesAreUnderLock (folder_of words) run.served.parts
names_under_lock words holders start end before there listed after was is old new locked started run some =
    served.parts_locked names_answering names_by_segments names_line_same (folder_of words) run.first run.last run.served.parts run.served.served
    (begun_stands words holders start before there listed locked started some run.first run.started)

-- ---- when it ends

pub names_still_locked : (words : LocksWords) (holders : List Hold) (start : NamePlace) (end : NamesService) (before there listed after : Option Held) (was is old new : Option (List ℕ)) → IsLocked before there (folder_of words)
    → AreNamesStarted (folder_of words) (list_of words) words.most_names holders there listed start
    → IsNamesRun words start end listed after was is old new → IsSome before → StandsLocked after (folder_of words)
names_still_locked words holders start end before there listed after was is old new locked started run some =
    let folder = folder_of words in
    let last = parts_stand folder run.first run.last run.served.parts run.served.served (begun_stands words holders start before there listed locked started some run.first run.started) in
    settled_locked run.last.files after folder (segment_file folder run.last.number) last.1 run.last.journal last.2 run.settled last.0

pub names_refused_locked : (words : LocksWords) (holders : List Hold) (start : NamePlace) (before there listed after : Option Held) (was is old new : Option (List ℕ)) (e : ToolError) → IsLocked before there (folder_of words)
    → AreNamesStarted (folder_of words) (list_of words) words.most_names holders there listed start
    → IsSome before → IsNamesRunRefused words start listed after was is old new e → StaysLocked words after was is old new
names_refused_locked words holders start before there listed after was is old new e locked started some (inl h) = inl h.0
names_refused_locked words holders start before there listed after was is old new e locked started some (inr (first, begun, inl broken)) =
    let folder = folder_of words in
    let s = broken.served in
    inr (served.stopped_locked names_answering names_by_segments names_line_same folder s.mid broken.end after s.before new s.behind s.stopped
    (parts_stand folder first s.mid s.parts s.served (begun_stands words holders start before there listed locked started some first begun)))
names_refused_locked words holders start before there listed after was is old new e locked started some (inr (first, begun, inr (last, all, gone, named))) =
    let folder = folder_of words in
    let last_stands = parts_stand folder first last all.parts all.served (begun_stands words holders start before there listed locked started some first begun) in
    inr (gone_locked last.files after folder (segment_file folder last.number) last_stands.1 last.journal last_stands.2 gone last_stands.0)

-- ---- files that are known

saved_known : (folder : List ℕ) (word : Option (List ℕ)) (l : Pooled) (before after : Option Held) → IsPooledSaved folder word l before after → StandsLocked before folder → IsSome after
saved_known folder word l before after saved locked = is_known after folder (saved_locked folder word l before after saved locked)

pub names_started_known : (words : LocksWords) (holders : List Hold) (before there listed : Option Held) (start : NamePlace) → IsLocked before there (folder_of words)
    → AreNamesStarted (folder_of words) (list_of words) words.most_names holders there listed start → IsSome before → IsSome listed
names_started_known words holders before there listed start locked started some =
    saved_known (folder_of words) (list_of words) started.started.list there listed started.started.saved (stands_locked before there (folder_of words) locked some)
