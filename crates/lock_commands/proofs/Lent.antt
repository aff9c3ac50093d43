-- Where names answered, the list that is named has a pool, or that of the folder.
use Rattle.std.proofs.Common.{◌≡◌, ℕ, Bool, true, false, List, Option, None, Some, inl, inr, refl, ap, sym, subst}
use Rattle.std.specs.Prelude.{Result, Ok, Err, OnOk, IfErr, is_some}
use Rattle.std.proofs.lemmas.Bool.{true≢false, false≢true}
use Rattle.disks.specs.Held.{Held}
use Rattle.ring_state.specs.Sizes.{Size}
use Rattle.line_service.specs.declared.segment_numbers.SegmentNumbers.{SegmentNumbers}
use Rattle.folder_of_locks.specs.Holders.{Hold}
use Rattle.folder_of_locks.specs.Pools.{Pooled}
use Rattle.folder_of_locks.specs.declared.faults.StartFault.{StartFault}
use Rattle.folder_of_locks.specs.declared.faults.StartFault.TheVariants as start
use Rattle.folder_of_locks.specs.NameFolders.{NamePlace, IsListOf, AreNamesStarted, IsPooledWordRefusal, IsPoolNamed, IsPoolSaid, IsPoolUnsaid}
use Rattle.tool_parts.specs.declared.requests.LocksWords.{LocksWords}
use Rattle.tool_parts.specs.Worlds.{World}
use Rattle.lock_commands.specs.Locks.{folder_of, list_of}
use Rattle.lock_commands.specs.NameRuns.{IsNamesAnswer}
use Rattle.lock_commands.specs.NamesLasting.{ToldNamesLast}
use Rattle.lock_commands.specs.NamesLife.{ToldNamesLive}
use Rattle.lock_commands.specs.Lending.{HasPoolBy, HasSomePool, unknown_of, IsFolderUnknown, IsUnknown, IsLendingAnswer, LentLast, LentLive}
use Rattle.lock_commands.specs.Refusals.{fault_of_list, IsNoPooledListFor}
use Rattle.lock_commands.proofs.UnreadLists.{is_word}

pub on_ok : {T E : Type 0} (r : Result T E) (A B : Type 0) → OnOk r A → (A → B) → OnOk r B
on_ok (Ok x) A B a f = f a
on_ok (Err e) A B a f = tt

pub on_err : {T E : Type 0} (r : Result T E) (A B : E → Type 0) → IfErr r A → ((e : E) → A e → B e) → IfErr r B
on_err (Ok x) A B a f = tt
on_err (Err e) A B a f = f e a

-- the list of which names started has a pool, and the word names it
named_so : (files : Option Held) (folder : List ℕ) (has : Bool) (range : Option SegmentNumbers) (word : List ℕ) (l : Pooled) (size : Size) → IsListOf files folder has range (Some word) l → l.pool ≡ Some size → IsPoolNamed (Some word) true
named_so files folder true range word l size is pool = (l, is.2, ap (λ (o : Option Size). is_some o) pool)
named_so files folder false range word l size is pool = (l, is.1, ap (λ (o : Option Size). is_some o) pool)

by_word : (was files after : Option Held) (folder : List ℕ) (word : Option (List ℕ)) (most : ℕ) (holders : List Hold) (p : NamePlace) → IsPoolSaid was folder word true → AreNamesStarted folder word most holders files after p → HasPoolBy was folder word
by_word was files after folder (Some word) most holders p said s = named_so files folder _ s.range word s.started.list s.started.stands.size s.started.listed s.started.stands.pool
by_word was files after folder None most holders p (inl none) s = absurd (true≢false none)
by_word was files after folder None most holders p (inr filed) s = filed

module _ (words : LocksWords) (was is : World) (said : HasSomePool words was.files) where
  pub lent_answer : IsNamesAnswer words was is → IsLendingAnswer words was is
  lent_answer a = inr (by_word was.files a.served.there a.served.listed (folder_of words) (list_of words) words.most_names a.holders a.served.start said a.served.started, a)

  pub lent_last : (left : Option Held) → ToldNamesLast words was is left → LentLast words was is left
  lent_last left (inl none) = inl (inl none)
  lent_last left (inr (holders, given, inl none)) = inl (inl none)
  lent_last left (inr (holders, given, inr (there, listed, start, locked, started, last))) =
      inr (by_word was.files there listed (folder_of words) (list_of words) words.most_names holders start said started, inr (holders, given, inr (there, listed, start, locked, started, last)))

  pub lent_live : ToldNamesLive words was is → LentLive words was is
  lent_live (inl none) = inl (inl none)
  lent_live (inr (holders, given, inl none)) = inl (inl none)
  lent_live (inr (holders, given, inr (there, listed, start, locked, started, life))) =
      inr (by_word was.files there listed (folder_of words) (list_of words) words.most_names holders start said started, inr (holders, given, inr (there, listed, start, locked, started, life)))

-- ---- where it is not known whether the list has a pool

-- a word is refused by a fault of its own, or for lack of memory
by_folder : (words : LocksWords) (files : Option Held) (why : StartFault) → ((w : List ℕ) → IsPooledWordRefusal w why → ⊥) → IsPoolUnsaid files (folder_of words) (list_of words) why → IsFolderUnknown words files why
by_folder words files why other (inl (w, is, h)) = absurd (other w h)
by_folder words files why other (inr h) = h

pub unknown_why : (words : LocksWords) (files : Option Held) (why : StartFault) → IsPoolUnsaid files (folder_of words) (list_of words) why → IsUnknown words files (unknown_of why)
unknown_why words files (start.Word error) (inl (w, is, h)) = inl (subst (λ (x : Option (List ℕ)). IsNoPooledListFor x (fault_of_list error)) (sym is) (error, h, refl))
unknown_why words files (start.Word error) (inr (inl h)) = absurd (false≢true (sym (ap is_word h)))
unknown_why words files (start.Word error) (inr (inr (inl h))) = absurd (false≢true (sym (ap is_word h)))
unknown_why words files (start.Word error) (inr (inr (inr (inl h)))) = absurd (false≢true (sym (ap is_word h)))
unknown_why words files (start.Word error) (inr (inr (inr (inr (bytes, held, h))))) = absurd h
unknown_why words files start.OutOfMemory h = inr refl
unknown_why words files (start.Folder error) h = by_folder words files (start.Folder error) (λ w x. x) h
unknown_why words files start.NoLocks h = by_folder words files start.NoLocks (λ w x. x) h
unknown_why words files start.NoLocksFile h = by_folder words files start.NoLocksFile (λ w x. x) h
unknown_why words files start.UnreadLocks h = by_folder words files start.UnreadLocks (λ w x. x) h
unknown_why words files start.BadLocks h = by_folder words files start.BadLocks (λ w x. x) h
unknown_why words files start.ManyLocks h = by_folder words files start.ManyLocks (λ w x. x) h
unknown_why words files (start.OtherLock i) h = by_folder words files (start.OtherLock i) (λ w x. x) h
unknown_why words files (start.UnreadSegment n) h = by_folder words files (start.UnreadSegment n) (λ w x. x) h
unknown_why words files (start.Segment n error) h = by_folder words files (start.Segment n error) (λ w x. x) h
unknown_why words files (start.OtherRing i) h = by_folder words files (start.OtherRing i) (λ w x. x) h
unknown_why words files (start.Full i) h = by_folder words files (start.Full i) (λ w x. x) h
unknown_why words files start.NoPool h = by_folder words files start.NoPool (λ w x. x) h
unknown_why words files (start.Remark n l cause) h = by_folder words files (start.Remark n l cause) (λ w x. x) h
unknown_why words files (start.Judged n why) h = by_folder words files (start.Judged n why) (λ w x. x) h
unknown_why words files (start.Names cause) h = by_folder words files (start.Names cause) (λ w x. x) h
unknown_why words files (start.Holder l) h = by_folder words files (start.Holder l) (λ w x. x) h
unknown_why words files start.Unsaved h = by_folder words files start.Unsaved (λ w x. x) h
