-- The written text of right runs is legal.
use Rattle.std.proofs.Common.{◌≡◌, ℕ, ◌+◌, List, [], ◌∷◌, length, refl, sym, ap, suc, arith}
use Rattle.std.specs.List.{All}
use Rattle.std.proofs.lemmas.List.Elements.{All-cons, All-head, All-tail}
use Rattle.ring_logs.specs.declared.outcomes.RingOutcome.{RingOutcome}
use Rattle.saved_history.specs.Versions.{latest_version}
use Rattle.saved_history.specs.Content.{Block}
use Rattle.ring_check.specs.Meaning.{AreRightBlocks}
use Rattle.ring_check.proofs.Meanings.{legal_means}
use Rattle.one_thread_ring.specs.SavedOf.{block_at}
use Rattle.one_thread_ring.specs.Runs.{IsRightRun}
use Rattle.one_thread_ring.proofs.WrittenBlocks.{run_right}
use Rattle.ring_text.specs.SavedOf.{blocks_from, saved_of}
use Rattle.ring_text.specs.Written.{WrittenIsLegal, WrittenIsRight}

runs_right : (place : ℕ) (rs : List RingOutcome) → All IsRightRun rs → AreRightBlocks latest_version place (blocks_from place rs)
runs_right place [] h = tt
runs_right place (r ∷ rs) h = (run_right place r (All-head IsRightRun r rs h), runs_right (place + 1) rs (All-tail IsRightRun r rs h))

runs_whole : (place : ℕ) (rs : List RingOutcome) → All (λ (b : Block). length b.start ≡ b.n) (blocks_from place rs)
runs_whole place [] = λ k d l. absurd (omega arith)
runs_whole place (r ∷ rs) = All-cons (λ (b : Block). length b.start ≡ b.n) (block_at place r) (blocks_from (place + 1) rs) refl (runs_whole (place + 1) rs)

runs_long : (place : ℕ) (rs : List RingOutcome) → length (blocks_from place rs) ≡ length rs
runs_long place [] = refl
runs_long place (r ∷ rs) = ap suc (runs_long (place + 1) rs)

pub written_is_right : WrittenIsRight
written_is_right o h = record { blocks = runs_right 0 o.rings.items h; rings_said = sym (runs_long 0 o.rings.items) }

pub written_is_legal : WrittenIsLegal
written_is_legal o h = (legal_means (saved_of o) (runs_whole 0 o.rings.items)).1 (written_is_right o h)
