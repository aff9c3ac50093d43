-- The saved text of rings that are right is legal.
use Rattle.std.proofs.Common.{◌≡◌, ℕ, suc, ◌+◌, List, [], ◌∷◌, length, map, refl, sym, ap, subst, arith}
use Rattle.std.specs.List.{All, AllByRecursion}
use Rattle.std.proofs.lemmas.List.Elements.{All-cons}
use Rattle.saved_history.specs.Versions.{latest_version}
use Rattle.saved_history.specs.Content.{Block}
use Rattle.ring_check.specs.Legal.{IsLegalText}
use Rattle.ring_check.specs.Meaning.{IsRightBlock, AreRightBlocks}
use Rattle.ring_check.proofs.Meanings.{legal_means}
use Rattle.one_thread_ring.proofs.Saved.{ring_right}
use Rattle.endless_ring.specs.Endless.{EndlessView}
use Rattle.ring_service.specs.Standings.{Standing, standing_of, AreRight}
use Rattle.ring_service.specs.Saved.{IsRight, block_at, blocks_from, content_of}

pub right_block : (place : ℕ) (r : Standing) → IsRight r → IsRightBlock latest_version place (block_at place r)
right_block place r k = subst (λ (x : Standing). IsRightBlock latest_version place (block_at place x)) k.2 (ring_right place k.0.ring k.1.ring)

right_blocks : (place : ℕ) (rs : List Standing) → AllByRecursion IsRight rs → AreRightBlocks latest_version place (blocks_from place rs)
right_blocks place [] all = tt
right_blocks place (r ∷ rs) all = (right_block place r all.0, right_blocks (place + 1) rs all.1)

whole_starts : (place : ℕ) (rs : List Standing) → All (λ (b : Block). length b.start ≡ b.n) (blocks_from place rs)
whole_starts place [] = λ k d l. absurd (omega arith)
whole_starts place (r ∷ rs) = All-cons (λ (b : Block). length b.start ≡ b.n) (block_at place r) (blocks_from (place + 1) rs) refl (whole_starts (place + 1) rs)

pub as_many : (place : ℕ) (rs : List Standing) → length (blocks_from place rs) ≡ length rs
as_many place [] = refl
as_many place (r ∷ rs) = ap suc (as_many (place + 1) rs)

pub content_legal : (rs : List Standing) → AllByRecursion IsRight rs → IsLegalText (content_of rs)
content_legal rs all = (legal_means (content_of rs) (whole_starts 0 rs)).1 (record { blocks = right_blocks 0 rs all; rings_said = sym (as_many 0 rs) })

-- rings that are right have right standings
pub all_right : (rings : List EndlessView) → AreRight rings → AllByRecursion IsRight (map standing_of rings)
all_right [] are = tt
all_right (d ∷ rings) are = ((d, are 0 d (omega arith), refl), all_right rings (λ i e l. are (suc i) e (omega (arith, l))))
