-- Counters of which one was raised are not all 0.
use Rattle.std.proofs.Common.{◌≡◌, ℕ, ◌+◌, ◌<◌, List, length, replicate, ap, arith, get_or-set_same}
use Rattle.std.specs.Prelude.{slice_index}
use Rattle.std.proofs.lemmas.List.{length-set, get_or-replicate}
use Rattle.ring_book.specs.GrantsView.{raised}

pub raised_not_clear : (counts : List ℕ) (i : ℕ) → i < length counts → raised counts i ≡ replicate (length (raised counts i)) 0 → ⊥
raised_not_clear counts i within all =
    let long : length (raised counts i) ≡ length counts = length-set counts i (slice_index counts i + 1) in
    let one : slice_index (raised counts i) i ≡ slice_index counts i + 1 = get_or-set_same counts i (slice_index counts i + 1) 0 within in
    let none : slice_index (replicate (length (raised counts i)) 0) i ≡ 0 = get_or-replicate (length (raised counts i)) i 0 0 (omega arith) in
    let same : slice_index (raised counts i) i ≡ slice_index (replicate (length (raised counts i)) 0) i = ap (λ (xs : List ℕ). slice_index xs i) all in
    omega arith
