-- Locks that start in a folder begin a segment: each ring shows the hold of its lock.
use Rattle.std.proofs.Common.{◌≡◌, ℕ, List, [], ◌∷◌, Option, Some, None, sym, subst, slice_get}
use Rattle.disks.specs.Held.{Held}
use Rattle.line_service.specs.declared.segment_numbers.SegmentNumbers.{SegmentNumbers}
use Rattle.ring_model.specs.declared.bases.Base.{Base}
use Rattle.saved_history.specs.declared.saved.SavedRing.{SavedRing}
use Rattle.lock_protocol.specs.Names.{Names}
use Rattle.folder_of_locks.specs.Holders.{Hold, AreHandedBy, handover}
use Rattle.held_locks.specs.Kept.{LockView}
use Rattle.held_locks.specs.Opened.{open_in, holder_after}
use Rattle.folder_of_locks.specs.Lists.{Listed}
use Rattle.folder_of_locks.specs.Rings.{AreBegun}
use Rattle.folder_of_locks.specs.Folders.{Found, StandsAt}
use Rattle.lock_journal.proofs.Following.{also_there}
use Rattle.lock_journal.proofs.HandedHolds.{each_handed}
use Rattle.lock_journal.proofs.Segments.{added_begins}
use Rattle.lock_journal.specs.Begun.{IsBegun}
use Rattle.lock_life.proofs.Started.{lock_is}
use Rattle.lock_life.specs.Started.{StartedLocksBegin}

abbrev EachBegun : List LockView → Type 0
EachBegun vs = (i : ℕ) (v : LockView) → slice_get vs i ≡ Some v → IsBegun v

each_found : (bs : List Base) (ss : List SavedRing) (ls : List Listed) (vs : List LockView) → AreBegun bs ss ls vs → EachBegun vs
each_found bs ss ls vs b i v at =
    let l = also_there vs ls i v b.many at in
    let k = b.each i l.0 v l.1 at in
    subst (λ (w : LockView). IsBegun w) (sym (lock_is v [] (holder_after (open_in k.0)) k.2.queue k.2.holder)) (added_begins k.0 v.ring k.2.kept k.2.repaired)

each_stands : (files : Option Held) (folder : List ℕ) (range : Option SegmentNumbers) (ls : List Listed) (p : Found) → StandsAt files folder range ls p → EachBegun p.locks
each_stands files folder None ls p s = each_found [] [] ls p.locks s.begun
each_stands files folder (Some r) ls p s = each_found s.segment.head.bases.items s.segment.saved.rings.items ls p.locks s.begun

all_handed : (names : Names) (old : List LockView) (hs : List Hold) (new : List LockView) → AreHandedBy names old hs new → EachBegun old → EachBegun new
all_handed names old [] new same each = subst (λ (vs : List LockView). EachBegun vs) (sym same) each
all_handed names old (h ∷ hs) new (mid, is, are) each = all_handed names mid hs new are (each_handed old mid (handover h is.0) is.2 each)

pub started_locks_begin : StartedLocksBegin
started_locks_begin folder word holders before after p entries started kept text =
    let s = started.started.stands in record {
      entries = entries;
      kept = kept;
      each = all_handed p.names s.found.locks holders p.locks s.handed (each_stands before folder started.range started.started.locks s.found s.stands);
      text = text;
    }
