-- Locks that come back from what is kept of their journal (this project's own).
use Rattle.std.specs.Prelude.{ℕ, List, false, Some, ◌≡◌, slice_get, [], ◌∷◌, ◌++◌, map}
use Rattle.std.specs.List.{AllByRecursion}
use Rattle.ring_model.specs.Ring.{ring_with}
use Rattle.saved_history.specs.Content.{Content, Block}
use Rattle.ring_check.specs.Table.{event_of}
use Rattle.journal.specs.Recovery.{has_line_end, IsRecovered}
use Rattle.ring_model.specs.declared.bases.Base.{Base}
use Rattle.one_thread_ring.specs.Texts.{surveys_told}
use Rattle.one_thread_ring.specs.Resuming.{CanGoOnWith}
use Rattle.endless_ring.specs.Endless.{EndlessView}
use Rattle.ring_service.specs.Standings.{Standing}
use Rattle.ring_service.specs.Saved.{content_of}
use Rattle.ring_service.specs.Segments.{bases_of}
use Rattle.ring_service.specs.Recovered.{HaveGrown, IsPrefix}
use Rattle.held_locks.specs.Locks.{Mark, Restart, step}
use Rattle.held_locks.specs.Promises.{Alternate, events_of, open_after, token_of}
use Rattle.held_locks.specs.Kept.{LockView, locks_of, seat_count, IsKeptRing, AreKept}
use Rattle.held_locks.specs.Opened.{events_in, open_in, IsAdded}
use Rattle.held_locks.specs.Cuts.{AreNext}
use Rattle.held_locks.specs.declared.handing.Handover.{Handover}
use Rattle.held_locks.specs.Handed.{AreHanded}
use Rattle.lock_journal.specs.declared.terms.Terms.{Terms}
use Rattle.lock_journal.specs.Begun.{begun_text, IsBegun, HaveBegun, AreAnswered}
use Rattle.lock_journal.specs.Counting.{SegmentView}
use Rattle.lock_journal.specs.Segments.{rings_of}
use Rattle.lock_journal.specs.Told.{AreOf, AreLinesIn}

-- ---- locks that are made of a recovered history

-- a ring is made of a block, and this came before its segment: it has the start, the events and the
-- surveys of the block
pub record IsMadeOf (before : Base) (b : Block) (e : EndlessView) : Type 0 where
  pub kept : IsKeptRing e
  pub base : e.base ≡ before
  pub start : e.ring.book.start ≡ ring_with b.k b.start
  pub history : e.ring.book.history ≡ map event_of b.events
  pub surveys : surveys_told e.ring.clients ≡ b.surveys

-- each is, one by one
abbrev pub AreMadeOf : List Base → List Block → List EndlessView → Type 0
AreMadeOf bases [] es = es ≡ []
AreMadeOf bases (b ∷ bs) [] = ⊥
AreMadeOf [] (b ∷ bs) (e ∷ es) = ⊥
AreMadeOf (base ∷ bases) (b ∷ bs) (e ∷ es) = IsMadeOf base b e × AreMadeOf bases bs es

-- these rings were added as locks, one after the other
abbrev pub AreAdded : List LockView → List EndlessView → List LockView → Type 0
AreAdded old [] new = new ≡ old
AreAdded old (e ∷ es) new = (mid : List LockView) × IsAdded old mid e × AreAdded mid es new

-- ---- what is recovered of a journal that has the notes of all lines

-- Of these bytes one history is recovered. Rings with seats for locks can be made of it, memory
-- aside; and the locks that are made of them are these, restarted: nobody waits for them, and a
-- hold that is open is client 0's.
pub record ComeBack (old new : List LockView) (bytes : List ℕ) : Type 0 where
  pub history : Content
  pub recovered : IsRecovered bytes history
  pub can_start : AllByRecursion (CanGoOnWith seat_count) history.rings
  pub locks : (es : List EndlessView) (made : List LockView)
      → AreMadeOf (bases_of (rings_of old)) history.rings es → AreAdded [] es made
      → locks_of made ≡ (step (locks_of new) Restart).locks

-- The locks of a segment come back from its beginning and the notes of the lines since, whatever is
-- torn after them, as they were after the last line.
abbrev pub LocksComeBack : Type 0
LocksComeBack =
    (terms : Terms) (old new : SegmentView) (entries : List (ℕ × ℕ)) (lines : List (List ℕ))
    (said noted torn : List ℕ) → HaveBegun old.locks → AreAnswered terms old lines said noted new
    → AreKept new.locks entries → has_line_end torn ≡ false
    → ComeBack old.locks new.locks (begun_text old.locks ++ (noted ++ torn))

-- ---- what is recovered of a journal that has at least the notes of the delivered lines

-- The history of this ring has the lock's events, and then those of some marks, among which grants
-- and ends of holds alternate. The hold that is open in it is the last of these; with no such mark,
-- it is the lock's.
pub record GoesOnIn (v : LockView) (e : EndlessView) : Type 0 where
  pub marks : List Mark
  pub events : events_in e ≡ events_in v.ring ++ events_of marks
  pub alternate : Alternate (token_of v.holder) marks
  pub hold : open_in e ≡ open_after (token_of v.holder) marks

-- Of these bytes rings are recovered that have continued from those that the journal records after
-- the delivered lines: the events of each, and the surveys in its logs, come first. Each delivered
-- grant and each delivered release is there, at its place. And each lock continues in the ring that
-- is made of it.
pub record AreKeptIn (terms : Terms) (old : SegmentView) (lines : List (List ℕ)) (said : List ℕ)
    (new : SegmentView) (bytes : List ℕ) : Type 0 where
  pub told : List Standing
  pub each : AreLinesIn terms old (rings_of old.locks) lines said new told
  pub of_locks : AreOf told new.locks
  pub rings : List Standing
  pub recovered : IsRecovered bytes (content_of rings)
  pub grown : HaveGrown told rings
  pub locks : (es : List EndlessView)
      → AreMadeOf (bases_of (rings_of old.locks)) (content_of rings).rings es → (i : ℕ)
      (v : LockView) (e : EndlessView) → slice_get new.locks i ≡ Some v
      → slice_get es i ≡ Some e → GoesOnIn v e

-- Some lines were delivered, and some more were answered. Whatever is kept of the journal, if it
-- has the notes of the delivered lines, nothing that they did is lost.
abbrev pub NothingToldIsLost : Type 0
NothingToldIsLost =
    (terms : Terms) (old mid new : SegmentView) (entries : List (ℕ × ℕ))
    (told untold : List (List ℕ)) (said noted unsaid notes kept lost : List ℕ)
    → HaveBegun old.locks → AreAnswered terms old told said noted mid
    → AreAnswered terms mid untold unsaid notes new → AreKept new.locks entries
    → kept ++ lost ≡ begun_text old.locks ++ (noted ++ notes)
    → IsPrefix (begun_text old.locks ++ noted) kept → AreKeptIn terms old told said mid kept

-- ---- which locks begin a segment

-- Locks that were added one after the other, of rings that are kept, show their holds.
abbrev pub AddedLocksBegin : Type 0
AddedLocksBegin =
    (es : List EndlessView) (made : List LockView) → AllByRecursion IsKeptRing es
    → AreAdded [] es made → (i : ℕ) (v : LockView) → slice_get made i ≡ Some v → IsBegun v

-- And so does each lock that continues in its next segment, after lines that were answered in one
-- that has begun.
abbrev pub NextLocksBegin : Type 0
NextLocksBegin =
    (terms : Terms) (old new : SegmentView) (entries : List (ℕ × ℕ)) (lines : List (List ℕ))
    (said noted : List ℕ) → HaveBegun old.locks → AreAnswered terms old lines said noted new
    → AreKept new.locks entries → (next : List LockView) → AreNext new.locks next
    → (i : ℕ) (v : LockView) → slice_get next i ≡ Some v → IsBegun v

-- And locks that begin a segment still do so where open holds were handed over.
abbrev pub HandedLocksBegin : Type 0
HandedLocksBegin =
    (old new : List LockView) (hs : List Handover) → HaveBegun old → AreHanded old hs new
    → HaveBegun new
