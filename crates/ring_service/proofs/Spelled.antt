-- How rings that are served are spelled in a saved text.
use Rattle.std.proofs.Common.{◌≡◌, ℕ, suc, ◌+◌, ◌^◌, ◌<◌, ◌≤◌, List, [], ◌∷◌, length, map, refl, ap, arith}
use Rattle.std.specs.List.{flat_map, AllByRecursion}
use Rattle.saved_history.specs.Versions.{latest_version}
use Rattle.saved_history.specs.Spelling.{block_text, BlockFits, Fits}
use Rattle.saved_history.proofs.Passing.{Spelled}
use Rattle.endless_ring.specs.Endless.{EndlessView}
use Rattle.ring_service.specs.Standings.{Standing, standing_of}
use Rattle.ring_service.specs.Saved.{block_at, blocks_from, content_of}

-- ---- rings

abbrev pub rings_text : ℕ → List EndlessView → List ℕ
rings_text i rs = flat_map block_text (blocks_from i (map standing_of rs))

abbrev pub RingsFit : ℕ → List EndlessView → Type 0
RingsFit i rs = AllByRecursion (BlockFits latest_version) (blocks_from i (map standing_of rs))

abbrev pub ring_text : ℕ → EndlessView → List ℕ
ring_text i r = block_text (block_at i (standing_of r))

abbrev pub RingFit : ℕ → EndlessView → Type 0
RingFit i r = BlockFits latest_version (block_at i (standing_of r))

pub rings_spelled : Spelled ring_text rings_text RingFit RingsFit
rings_spelled = record { none = λ i. refl; next = λ i x xs. refl; fits_none = λ i. tt; fits_next = λ i x xs f h. (f, h) }

blocks_count : (place : ℕ) (rs : List Standing) → length (blocks_from place rs) ≡ length rs
blocks_count place [] = refl
blocks_count place (r ∷ rs) = ap suc (blocks_count (place + 1) rs)

-- each block fits, there is one at least, and they are few
pub text_fits : (rs : List Standing) → 1 ≤ length rs → length rs < 2 ^ 32 → AllByRecursion (BlockFits latest_version) (blocks_from 0 rs) → Fits (content_of rs)
text_fits rs some most blocks = record { version = (omega arith, omega arith); some = omega (arith, blocks_count 0 rs, some); rings = blocks; rings_said = omega (arith, most) }
