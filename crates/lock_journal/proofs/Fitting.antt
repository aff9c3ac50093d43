-- The text of a segment of locks: where its head fits, there is a ring, and they are few.
use Rattle.std.proofs.Common.{◌≡◌, ℕ, suc, List, [], ◌∷◌, length, refl, ap, subst, arith, ◌<◌, ◌^◌}
use Rattle.ring_model.specs.declared.bases.Base.{Base}
use Rattle.segment_files.specs.Spelling.{HeadFits}
use Rattle.ring_service.specs.Segments.{bases_of}
use Rattle.ring_service.specs.Standings.{Standing}
use Rattle.ring_service.proofs.Spelled.{text_fits}
use Rattle.held_locks.specs.Kept.{LockView}
use Rattle.lock_journal.specs.Segments.{rings_of, HasText, BlocksFit}

bases_many : (rs : List Standing) → length (bases_of rs) ≡ length rs
bases_many [] = refl
bases_many (r ∷ rs) = ap suc (bases_many rs)

pub has_text : (number : ℕ) (behind : List ℕ) (locks : List LockView) (bases : List Base) → bases ≡ bases_of (rings_of locks) → HeadFits (record { number = number; behind = behind; bases = bases }) → BlocksFit locks → HasText number behind locks
has_text number behind locks bases e head blocks =
    let h : HeadFits (record { number = number; behind = behind; bases = bases_of (rings_of locks) }) = subst (λ (bs : List Base). HeadFits (record { number = number; behind = behind; bases = bs })) e head in
    let many = bases_many (rings_of locks) in
    let some : 0 < length (bases_of (rings_of locks)) = h.some in
    let few : length (bases_of (rings_of locks)) < 2 ^ 32 = h.rings in
    record { head = h; rings = text_fits (rings_of locks) (omega (arith, many, some)) (omega (arith, many, few)) blocks }
