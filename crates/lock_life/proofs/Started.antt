-- Locks that a folder's last segment starts are those that are found in it.
use Rattle.std.proofs.Common.{◌≡◌, ℕ, suc, List, [], ◌∷◌, ◌++◌, map, length, Option, Some, refl, sym, ◌∙◌, ap, subst, arith, slice_get, append_assoc}
use Rattle.std.proofs.lemmas.List.{append-nil}
use Rattle.saved_history.specs.declared.saved.SavedRing.{SavedRing}
use Rattle.saved_history.specs.Content.{content, block_of}
use Rattle.ring_model.specs.declared.bases.Base.{Base}
use Rattle.endless_ring.specs.Endless.{EndlessView}
use Rattle.ring_service.specs.Segments.{bases_of}
use Rattle.held_locks.specs.declared.answers.Waiter.{Waiter}
use Rattle.held_locks.specs.declared.answers.Holder.{Holder}
use Rattle.held_locks.specs.Kept.{LockView}
use Rattle.held_locks.specs.Opened.{open_in, holder_after}
use Rattle.folder_of_locks.specs.Rings.{IsRingOf, Starts}
use Rattle.lock_journal.proofs.Following.{also_there}
use Rattle.lock_journal.specs.Recovered.{IsMadeOf, AreMadeOf, AreAdded}
use Rattle.lock_journal.specs.Segments.{rings_of}
use Rattle.lock_life.specs.Started.{StartedLocksAreFound}

-- the ring with which each lock starts
record IsStarted (b : Base) (s : SavedRing) (v : LockView) : Type 0 where
  pub ring : EndlessView
  pub made : IsMadeOf b (block_of s) ring
  pub starts : Starts ring v

AreEach : List Base → List SavedRing → List LockView → Type 0
AreEach bs ss vs =
    (i : ℕ) (b : Base) (s : SavedRing) (v : LockView) → slice_get bs i ≡ Some b → slice_get ss i ≡ Some s → slice_get vs i ≡ Some v → IsStarted b s v

pub lock_is : (v : LockView) (line : List Waiter) (holder : Option Holder) → v.queue ≡ line → v.holder ≡ holder → v ≡ record { ring = v.ring; queue = line; holder = holder }
lock_is v line holder e f = ap (λ (x : List Waiter). record { ring = v.ring; queue = x; holder = v.holder }) e ∙ ap (λ (x : Option Holder). record { ring = v.ring; queue = line; holder = x }) f

-- the rings of all
record HaveRings (bs : List Base) (ss : List SavedRing) (old vs : List LockView) : Type 0 where
  pub rings : List EndlessView
  pub made : AreMadeOf bs (map block_of ss) rings
  pub added : AreAdded old rings (old ++ vs)

have_rings : (bs : List Base) (ss : List SavedRing) (old vs : List LockView) → length ss ≡ length vs → length bs ≡ length vs → AreEach bs ss vs → HaveRings bs ss old vs
unfolding AreEach
have_rings bs [] old [] n m each = record { rings = []; made = refl; added = append-nil old }
have_rings bs [] old (v ∷ vs) n m each = absurd (omega (arith, n))
have_rings bs (s ∷ ss) old [] n m each = absurd (omega (arith, n))
have_rings [] (s ∷ ss) old (v ∷ vs) n m each = absurd (omega (arith, m))
have_rings (b ∷ bs) (s ∷ ss) old (v ∷ vs) n m each =
    let one = each 0 b s v refl refl refl in
    let added : LockView = record { ring = v.ring; queue = []; holder = holder_after (open_in one.ring) } in
    let same : v ≡ added = lock_is v [] (holder_after (open_in one.ring)) one.starts.queue one.starts.holder in
    let more = have_rings bs ss (old ++ v ∷ []) vs (omega (arith, n)) (omega (arith, m)) (λ i c t w p q r. each (suc i) c t w p q r) in record {
      rings = one.ring ∷ more.rings;
      made = (one.made, more.made);
      added = (
        old ++ v ∷ [],
        record { ring = v.ring; repaired = one.starts.repaired; added = ap (λ (x : LockView). old ++ x ∷ []) same },
        subst (λ (x : List LockView). AreAdded (old ++ v ∷ []) more.rings x) (append_assoc old (v ∷ []) vs) more.added,
      );
    }

pub bases_many : (vs : List LockView) → length (bases_of (rings_of vs)) ≡ length vs
bases_many [] = refl
bases_many (v ∷ vs) = ap suc (bases_many vs)

pub started_locks_are_found : StartedLocksAreFound
unfolding AreEach
started_locks_are_found start found journal saved locks recovered begun many as_many =
    let bases : List Base = bases_of (rings_of start) in
    let n : length bases ≡ length start = bases_many start in
    let each : AreEach bases saved.rings.items found = λ i b s v p q r.
    (let l = also_there found locks i v begun.many r in
    let k = begun.each i l.0 v l.1 r in
    let ring : IsRingOf (Some b) (Some s) l.0 k.0 = subst (λ (x : Option Base). IsRingOf x (Some s) l.0 k.0) p (subst (λ (x : Option SavedRing). IsRingOf (slice_get bases i) x l.0 k.0) q k.1) in
    record {
      ring = k.0;
      made = record { kept = k.2.kept; base = ring.2.base; start = ring.2.start; history = ring.2.history; surveys = ring.2.surveys };
      starts = k.2;
    }) in
    let all = begun.many in
    let h = have_rings bases saved.rings.items [] found (sym many ∙ sym all) (n ∙ (sym as_many ∙ sym all)) each in
    record { history = content saved; recovered = recovered; rings = h.rings; made = h.made; added = h.added }
