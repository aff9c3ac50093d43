-- Where a list with a pool cannot be read, no file has changed.
use Rattle.std.proofs.Common.{◌≡◌, ℕ, ◌-◌, List, [], Bool, Option, None, Some, length, inl, inr, sym, ap, subst}
use Rattle.std.proofs.lemmas.Bool.{false≢true}
use Rattle.disks.specs.Held.{Held}
use Rattle.disks.specs.Folders.{is_among, names_of}
use Rattle.ring_state.specs.Sizes.{Size}
use Rattle.held_locks.specs.Kept.{LockView}
use Rattle.line_service.specs.SegmentNames.{list_name}
use Rattle.line_service.specs.declared.faults.LoopFault.TheVariants as loop
use Rattle.line_service.specs.declared.folder_errors.FolderError.TheVariants as folders
use Rattle.line_service.specs.declared.segment_numbers.SegmentNumbers.{SegmentNumbers}
use Rattle.line_service.specs.Segments.{Moment}
use Rattle.segment_files.specs.declared.last.LastSegment.{LastSegment}
use Rattle.folder_of_locks.specs.declared.locks.ListError.{ListError}
use Rattle.folder_of_locks.specs.declared.locks.ListError.TheVariants as list
use Rattle.folder_of_locks.specs.Lists.{Listed, names_of as names_in}
use Rattle.folder_of_locks.specs.Pools.{Pooled, IsPooledWordFault, HasOne, ArePooled}
use Rattle.folder_of_locks.specs.Holders.{Hold}
use Rattle.folder_of_locks.specs.NameRings.{with_rings, AreUnnamed}
use Rattle.folder_of_locks.specs.declared.faults.StartFault.{StartFault}
use Rattle.folder_of_locks.specs.declared.faults.StartFault.TheVariants as start
use Rattle.folder_of_locks.specs.NameFolders.{NamePlace, first_pool, IsFirstNamesFault, IsTellingFault, IsNamingFault, IsLastNamesFault, AreUnnamedAt, NamesDoNotStand, IsListFileRefusal, IsNameRefusal, AreNamesUnstarted}
use Rattle.name_remarks.specs.Bindings.{Bindings, nothing}
use Rattle.ring_model.specs.declared.bases.Base.{Base}
use Rattle.tool_parts.specs.declared.requests.LocksWords.{LocksWords}
use Rattle.tool_parts.specs.Worlds.{World}
use Rattle.tool_parts.specs.declared.faults.ToolError.TheVariants as tool
use Rattle.lock_commands.specs.Refusals.{fault_of_list, IsStartName, IsPooledListIf}
use Rattle.lock_commands.specs.HoldersFile.{holders_word, name_of}
use Rattle.lock_commands.specs.Locks.{folder_of, list_of}
use Rattle.lock_commands.specs.NamesStarted.{NamesService}
use Rattle.lock_commands.specs.NameRuns.{IsUnended, HasNotBegunFrom, AreNamesUnbegun, IsNamesRunRefused, AreNamesStartRefused, AreNamesRefusedIn, AreNamesRefusedWith, IsNamesRefusal}
use Rattle.lock_commands.specs.Lending.{IsFolderUnknown, IsRefusedUnknown, IsLendingRefusal}
use Rattle.lock_commands.proofs.UnreadLists.{is_word, is_list, of_rings, of_listless, of_names, of_judge, of_begin, of_loop, of_holders, unread_list_keeps}

-- ---- a word that is a list is not refused as none

of_unnamed : (vs : List LockView) (ns : List (List ℕ)) (bs : List Base) (t : Bindings) (e : ListError) → AreUnnamed vs ns bs t (start.Word e) → ⊥
of_unnamed vs ns bs t e h = h

of_first : (ls : List Listed) (z : Size) (most : ℕ) (e : ListError) → IsFirstNamesFault ls z most (start.Word e) → ⊥
of_first ls z most e (inl (same, many)) = false≢true (sym (ap is_word same))
of_first ls z most e (inr (room, inl h)) = of_rings [] [] (with_rings ls z (first_pool most)) e h
of_first ls z most e (inr (room, inr (inl h))) = false≢true (sym (ap is_word h))
of_first ls z most e (inr (room, inr (inr (vs, first, h)))) = of_unnamed vs (names_in ls) [] (nothing (length vs)) e h

of_telling : (n : ℕ) (kept : List ℕ) (s : LastSegment) (ls : List Listed) (vs : List LockView) (e : ListError) → IsTellingFault n kept s ls vs (start.Word e) → ⊥
of_telling n kept s ls vs e (inl h) = h
of_telling n kept s ls vs e (inr (inl h)) = h
of_telling n kept s ls vs e (inr (inr (told, taken, h))) = of_unnamed vs (names_in ls) s.head.bases.items told e h

of_naming : (n : ℕ) (front : List ℕ) (s : LastSegment) (ls : List Listed) (z : Size) (e : ListError) → IsNamingFault n front s ls z (start.Word e) → ⊥
of_naming n front s ls z e (inl h) = of_rings s.head.bases.items s.saved.rings.items (with_rings ls z (length s.saved.rings.items - length ls)) e h
of_naming n front s ls z e (inr (inl h)) = false≢true (sym (ap is_word h))
of_naming n front s ls z e (inr (inr (vs, kept, segment, lines, h))) = of_telling n kept s ls vs e h

of_last : (files : Option Held) (folder : List ℕ) (n : ℕ) (ls : List Listed) (z : Size) (e : ListError) → IsLastNamesFault files folder n ls z (start.Word e) → ⊥
of_last files folder n ls z e (inl (inl h)) = h
of_last files folder n ls z e (inl (inr (bytes, held, h))) = h
of_last files folder n ls z e (inr (front, s, at, h)) = of_naming n front s ls z e h

of_place : (files : Option Held) (folder : List ℕ) (range : Option SegmentNumbers) (ls : List Listed) (z : Size) (most : ℕ) (e : ListError) → AreUnnamedAt files folder range ls z most (start.Word e) → ⊥
of_place files folder None ls z most e h = of_first ls z most e h
of_place files folder (Some r) ls z most e h = of_last files folder r.last ls z e h

of_standing : (files : Option Held) (folder : List ℕ) (range : Option SegmentNumbers) (l : Pooled) (most : ℕ) (holders : List Hold) (e : ListError) → NamesDoNotStand files folder range l most holders (start.Word e) → ⊥
of_standing files folder range l most holders e (inl (none, h)) = false≢true (sym (ap is_word h))
of_standing files folder range l most holders e (inr (size, pool, inl h)) = of_place files folder range l.locks size most e h
of_standing files folder range l most holders e (inr (size, pool, inr (found, stands, h))) = h

of_list_file : (files : Option Held) (folder : List ℕ) (e : ListError) → IsListFileRefusal files folder (start.Word e) → ⊥
of_list_file files folder e (inl h) = false≢true (sym (ap is_word h))
of_list_file files folder e (inr (inl h)) = false≢true (sym (ap is_word h))
of_list_file files folder e (inr (inr (bytes, held, h))) = h

has_one : (ls : List Listed) (pool : Option Size) → ArePooled ls pool → HasOne ls pool
has_one ls None are = are.some
has_one ls (Some s) are = tt

no_fault : (word : List ℕ) → IsPooledListIf (Some word) → IsPooledWordFault word list.Syntax → ⊥
no_fault word (l, is) fault = fault l.locks l.pool (has_one l.locks l.pool is.1) is.0

of_start : (files : Option Held) (folder : List ℕ) (has : Bool) (range : Option SegmentNumbers) (word : Option (List ℕ)) (most : ℕ) (holders : List Hold) → IsPooledListIf word →
    IsNameRefusal files folder has range word most holders (start.Word list.Syntax) → ⊥
of_start files folder has range word most holders listed (inl (none, h)) = of_listless range word list.Syntax h
of_start files folder has range word most holders listed (inr (inl (there, h))) = of_list_file files folder list.Syntax h
of_start files folder has range word most holders listed (inr (inr (inl (w, is, h)))) = no_fault w (subst (λ (x : Option (List ℕ)). IsPooledListIf x) is listed) h
of_start files folder has range word most holders listed (inr (inr (inr (inl (w, old, l, is, file, new, h))))) = h
of_start files folder has range word most holders listed (inr (inr (inr (inr (inl (l, named, h)))))) = of_standing files folder range l most holders list.Syntax h
of_start files folder has range word most holders listed (inr (inr (inr (inr (inr (inl h)))))) = false≢true (sym (ap is_word h))
of_start files folder has range word most holders listed (inr (inr (inr (inr (inr (inr h)))))) = false≢true (sym (ap is_word h))

of_word : (files : Option Held) (folder : List ℕ) (word : Option (List ℕ)) (most : ℕ) (holders : List Hold) → IsPooledListIf word → AreNamesUnstarted files folder word most holders (start.Word list.Syntax) → ⊥
of_word files folder word most holders listed (inl h) = false≢true (sym (ap is_word h))
of_word files folder word most holders listed (inr (entries, lists, inl (error, same, right))) = false≢true (sym (ap is_word same))
of_word files folder word most holders listed (inr (entries, lists, inr (range, right, h))) =
    of_start files folder (is_among (names_of entries) list_name) range word most holders listed h

-- ---- the names of refusals

of_list : (files : Option Held) (folder : List ℕ) (word : Option (List ℕ)) (most : ℕ) (holders : List Hold) (error : ListError) → IsPooledListIf word → AreNamesUnstarted files folder word most holders (start.Word error) →
    tool.BadList ≡ fault_of_list error → ⊥
of_list files folder word most holders list.Syntax listed refused h = of_word files folder word most holders listed refused
of_list files folder word most holders list.Many listed refused h = false≢true (sym (ap is_list h))
of_list files folder word most holders (list.Size place cause) listed refused h = false≢true (sym (ap is_list h))
of_list files folder word most holders (list.Twice place) listed refused h = false≢true (sym (ap is_list h))
of_list files folder word most holders list.OutOfMemory listed refused h = false≢true (sym (ap is_list h))

of_fault : (files : Option Held) (folder : List ℕ) (file : List ℕ) (word : Option (List ℕ)) (most : ℕ) (holders : List Hold) (why : StartFault) → IsPooledListIf word → AreNamesUnstarted files folder word most holders why →
    IsStartName folder file why tool.BadList → ⊥
of_fault files folder file word most holders (start.Folder error) listed refused h = of_names folder error h
of_fault files folder file word most holders (start.Word error) listed refused h = of_list files folder word most holders error listed refused h
of_fault files folder file word most holders start.NoLocks listed refused h = h
of_fault files folder file word most holders start.NoLocksFile listed refused h = h
of_fault files folder file word most holders start.UnreadLocks listed refused h = h
of_fault files folder file word most holders start.BadLocks listed refused h = h
of_fault files folder file word most holders start.ManyLocks listed refused h = h
of_fault files folder file word most holders (start.OtherLock i) listed refused h = h
of_fault files folder file word most holders (start.UnreadSegment n) listed refused h = h
of_fault files folder file word most holders (start.Segment n error) listed refused h = h
of_fault files folder file word most holders (start.OtherRing i) listed refused h = h
of_fault files folder file word most holders (start.Full i) listed refused h = h
of_fault files folder file word most holders start.NoPool listed refused h = h
of_fault files folder file word most holders (start.Remark n l cause) listed refused h = h
of_fault files folder file word most holders (start.Judged n why) listed refused h = of_judge folder n why h
of_fault files folder file word most holders (start.Names cause) listed refused h = h
of_fault files folder file word most holders (start.Holder l) listed refused h = h
of_fault files folder file word most holders start.Unsaved listed refused h = h
of_fault files folder file word most holders start.OutOfMemory listed refused h = h

-- ---- names that are refused

of_unended : (folder : List ℕ) (mid : Moment NamesService) (after : Option Held) → IsUnended folder mid after tool.BadList → ⊥
of_unended folder mid after (inl (why, end, rest, out, served, h)) = of_loop folder why h
of_unended folder mid after (inr (last, served, due, kept, h)) = of_loop folder loop.Journal h

of_begun : (folder : List ℕ) (number : ℕ) (behind : List ℕ) (lines : Option (List ℕ)) (service : NamesService) (before after : Option Held) → HasNotBegunFrom folder number behind lines service before after tool.BadList → ⊥
of_begun folder number behind None service before after h = of_begin folder h.1.0 h.1.1
of_begun folder number behind (Some lines) service before after (inl h) = of_begin folder h.1.0 h.1.1
of_begun folder number behind (Some lines) service before after (inr (mid, is, at, put, h)) = of_unended folder mid after h

of_unbegun : (words : LocksWords) (place : NamePlace) (before after : Option Held) → AreNamesUnbegun words place before after tool.BadList → ⊥
of_unbegun words place before after (inl h) = of_begin (folder_of words) h.1.0 h.1.1
of_unbegun words place before after (inr (lines, service, again, begins, h)) = of_begun (folder_of words) place.number place.behind lines service before after h

of_run : (words : LocksWords) (place : NamePlace) (before after : Option Held) (was is old new : Option (List ℕ)) →
    IsNamesRunRefused words place before after was is old new tool.BadList → ⊥
of_run words place before after was is old new (inl (unserved, h)) = of_unbegun words place before after h
of_run words place before after was is old new (inr (first, started, inl h)) = of_loop (folder_of words) h.why h.named
of_run words place before after was is old new (inr (first, started, inr (last, served, kept, h))) = of_loop (folder_of words) loop.Journal h

of_unstarted : (words : LocksWords) (holders : List Hold) (there after : Option Held) → IsPooledListIf (list_of words) → AreNamesStartRefused words holders there after tool.BadList → ⊥
of_unstarted words holders there after listed (same, h) = of_fault there (folder_of words) (name_of (holders_word words)) (list_of words) words.most_names holders h.0 listed h.1 h.2

of_folder : (words : LocksWords) (holders : List Hold) (before after : Option Held) (was is old new : Option (List ℕ)) → IsPooledListIf (list_of words) →
    AreNamesRefusedIn words holders before after was is old new tool.BadList → ⊥
of_folder words holders before after was is old new listed (inl (unserved, left, h)) = h
of_folder words holders before after was is old new listed (inr (there, locked, inl (unserved, h))) = of_unstarted words holders there after listed h
of_folder words holders before after was is old new listed (inr (there, locked, inr (saved, place, started, h))) = of_run words place saved after was is old new h

of_locks : (words : LocksWords) (holders : List Hold) (was is : World) → IsPooledListIf (list_of words) → AreNamesRefusedWith words holders was is tool.BadList → ⊥
of_locks words holders was is listed (inl (silent, h)) = of_folder words holders was.files is.files was.input is.input was.out is.out listed h
of_locks words holders was is listed (inr (end, served, h)) = h

unread_names_keep : (words : LocksWords) (was is : World) → IsNamesRefusal words was is tool.BadList → is.files ≡ was.files
unread_names_keep words was is (inl (same, h)) = ap (λ (w : World). w.files) same
unread_names_keep words was is (inr (listed, inl (same, h))) = absurd (of_holders was.files (holders_word words) h)
unread_names_keep words was is (inr (listed, inr (holders, given, h))) = absurd (of_locks words holders was is listed h)

-- ---- where it is not known whether the list has a pool

of_why : (words : LocksWords) (files : Option Held) (folder file : List ℕ) (why : StartFault) → IsFolderUnknown words files why → IsStartName folder file why tool.BadList → ⊥
of_why words files folder file (start.Folder error) found h = of_names folder error h
of_why words files folder file (start.Word error) (inl same) h = false≢true (sym (ap is_word same))
of_why words files folder file (start.Word error) (inr found) h = of_list_file files (folder_of words) error found
of_why words files folder file start.NoLocks found h = h
of_why words files folder file start.NoLocksFile found h = h
of_why words files folder file start.UnreadLocks found h = h
of_why words files folder file start.BadLocks found h = h
of_why words files folder file start.ManyLocks found h = h
of_why words files folder file (start.OtherLock i) found h = h
of_why words files folder file (start.UnreadSegment n) found h = h
of_why words files folder file (start.Segment n error) found h = h
of_why words files folder file (start.OtherRing i) found h = h
of_why words files folder file (start.Full i) found h = h
of_why words files folder file start.NoPool found h = h
of_why words files folder file (start.Remark n l cause) found h = h
of_why words files folder file (start.Judged n why) found h = of_judge folder n why h
of_why words files folder file (start.Names cause) found h = h
of_why words files folder file (start.Holder l) found h = h
of_why words files folder file start.Unsaved found h = h
of_why words files folder file start.OutOfMemory found h = h

of_unknown : (words : LocksWords) (before after : Option Held) (why : StartFault) → IsFolderUnknown words before why → IsRefusedUnknown words before after why tool.BadList → ⊥
of_unknown words before after why found (inl (same, h)) = of_holders before (holders_word words) h
of_unknown words before after why found (inr (holders, given, inl (left, h))) = h
of_unknown words before after why found (inr (holders, given, inr (locked, inl h))) = of_names (folder_of words) folders.Unlisted h
of_unknown words before after why found (inr (holders, given, inr (locked, inr (inl (error, entries, lists, right, h))))) = of_names (folder_of words) error h
of_unknown words before after why found (inr (holders, given, inr (locked, inr (inr h)))) = of_why words before (folder_of words) (name_of (holders_word words)) why found h

-- ---- whichever the list is

pub unread_lists_keep : (words : LocksWords) (was is : World) → IsLendingRefusal words was is tool.BadList → is.files ≡ was.files
unread_lists_keep words was is (inl (same, h)) = ap (λ (w : World). w.files) same
unread_lists_keep words was is (inr (inl (why, found, same, h))) = absurd (of_unknown words was.files is.files why found h)
unread_lists_keep words was is (inr (inr (inl (none, h)))) = unread_list_keeps words was is h
unread_lists_keep words was is (inr (inr (inr (pool, h)))) = unread_names_keep words was is h
