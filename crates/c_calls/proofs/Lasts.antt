-- The ring of the last file of a chain.
use Rattle.std.proofs.Common.{◌≡◌, ℕ, List, [], ◌∷◌, ap, subst, sym, ◌∙◌, Ok}
use Rattle.std.specs.Prelude.{slice_get}
use Rattle.saved_history.specs.declared.saved.SavedRing.{SavedRing}
use Rattle.saved_history.specs.Content.{content, block_of}
use Rattle.ring_check.specs.Meaning.{IsRightBlock, IsRightText}
use Rattle.ring_check.proofs.Meanings.{legal_means}
use Rattle.segment_files.specs.declared.last.LastSegment.{LastSegment}
use Rattle.segment_files.specs.Last.{IsRightLast, last_file}
use Rattle.segment_files.proofs.Starts.{file_starts}
use Rattle.ring_model.specs.declared.bases.Base.{Base}
use Rattle.one_thread_ring.specs.Rings.{RingView}
use Rattle.endless_ring.specs.Files.{FilesView, PlaceView, filed_at}
use Rattle.c_calls.specs.Resumed.{IsResumedAs}
use Rattle.c_calls.specs.Sealed.{IsGoneOn}
use Rattle.c_calls.proofs.Places.{right_at}

pub right_ring : (bytes : List ℕ) (last : LastSegment) (ring : SavedRing) → IsRightLast bytes (Ok last) → last.saved.rings.items ≡ ring ∷ []
    → (version : ℕ) × (place : ℕ) × IsRightBlock version place (block_of ring)
right_ring bytes last ring right one =
    let file = right.file in
    let text : IsRightText (content last.saved) = (legal_means (content last.saved) (file_starts (last_file bytes last) file)).0 file.recovered.legal in
    right_at last.saved.version 0 last.saved.rings.items 0 ring text.blocks (ap (λ (rs : List SavedRing). slice_get rs 0) one)

-- a ring that resumes there
pub gone_on : (bytes : List ℕ) (last : LastSegment) (saved : SavedRing) (base : Base) (seats : ℕ) (place : PlaceView) (ring : RingView ℕ) (d : FilesView) → d ≡ filed_at place base ring
    → place ≡ record { number = last.head.number; behind = last.head.behind } → IsRightLast bytes (Ok last) → last.saved.rings.items ≡ saved ∷ [] → last.head.bases.items ≡ base ∷ []
    → IsResumedAs saved seats ring → IsGoneOn bytes seats d
gone_on bytes last saved base seats place ring d e p right alone based resumed =
    let q : d.ring.ring ≡ ring = ap (λ (x : FilesView). x.ring.ring) e in
    record {
      last = last;
      saved = saved;
      base = base;
      right = right;
      one = record { alone = alone; based = based };
      resumed = subst (λ (r : RingView ℕ). IsResumedAs saved seats r) (sym q) resumed;
      filed = e ∙ (ap (λ (x : PlaceView). filed_at x base ring) p ∙ ap (λ (r : RingView ℕ). filed_at (record { number = last.head.number; behind = last.head.behind }) base r) (sym q));
    }
