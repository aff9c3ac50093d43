-- The blocks of a saved text as the outcomes of rings, one by one.
use Rattle.std.proofs.Common.{ℕ, List, refl}
use Rattle.std.specs.List.{flat_map, AllByRecursion}
use Rattle.ring_logs.specs.declared.outcomes.RingOutcome.{RingOutcome}
use Rattle.saved_history.specs.Versions.{latest_version}
use Rattle.saved_history.specs.Spelling.{block_text, BlockFits}
use Rattle.saved_history.proofs.Passing.{Spelled}
use Rattle.one_thread_ring.specs.SavedOf.{block_at}
use Rattle.ring_text.specs.SavedOf.{blocks_from}

abbrev pub blocks_text : ℕ → List RingOutcome → List ℕ
blocks_text i rs = flat_map block_text (blocks_from i rs)

abbrev pub BlocksFit : ℕ → List RingOutcome → Type 0
BlocksFit i rs = AllByRecursion (BlockFits latest_version) (blocks_from i rs)

abbrev pub ring_text : ℕ → RingOutcome → List ℕ
ring_text i r = block_text (block_at i r)

abbrev pub RingFit : ℕ → RingOutcome → Type 0
RingFit i r = BlockFits latest_version (block_at i r)

pub blocks_spelled : Spelled ring_text blocks_text RingFit BlocksFit
blocks_spelled = record { none = λ i. refl; next = λ i x xs. refl; fits_none = λ i. tt; fits_next = λ i x xs f h. (f, h) }
