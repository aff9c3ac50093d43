-- One step along a line.
use Rattle.std.proofs.Common.{◌≡◌, ◌≢◌, ℕ, ◌+◌, ◌<◌, ◌≤◌, get_or, List, length, drop, Ok, Err, refl}
use Rattle.std.proofs.lemmas.Bool.{ne_eqb}
use Rattle.std.proofs.lemmas.List.{drop_more, drop_all}
use Rattle.text_lines.specs.declared.fault.Fault.TheVariants.{Short}
use Rattle.ring_service.specs.Readers.{gaps, end_of_line}

pub end_found : (bs : List ℕ) (i : ℕ) → i < length bs → get_or bs i 0 ≡ 10 → end_of_line (drop i bs) ≡ Ok (drop (i + 1) bs)
unfolding end_of_line
end_found bs i l e = rw (drop_more bs i 0 l, e) refl

pub end_more : (bs : List ℕ) (i : ℕ) → i < length bs → get_or bs i 0 ≢ 10 → end_of_line (drop (i + 1) bs) ≡ end_of_line (drop i bs)
unfolding end_of_line
end_more bs i l e = rw (drop_more bs i 0 l, ne_eqb _ _ e) refl

pub end_none : (bs : List ℕ) (i : ℕ) → length bs ≤ i → end_of_line (drop i bs) ≡ Err Short
unfolding end_of_line
end_none bs i l = rw (drop_all i bs l) refl

pub gaps_end : (bs : List ℕ) (i : ℕ) → i < length bs → get_or bs i 0 ≡ 10 → gaps (drop i bs) ≡ 0
unfolding gaps
gaps_end bs i l e = rw (drop_more bs i 0 l, e) refl

pub gaps_space : (bs : List ℕ) (i : ℕ) → i < length bs → get_or bs i 0 ≡ 32 → gaps (drop i bs) ≡ gaps (drop (i + 1) bs) + 1
unfolding gaps
gaps_space bs i l e = rw (drop_more bs i 0 l, e) refl

pub gaps_other : (bs : List ℕ) (i : ℕ) → i < length bs → get_or bs i 0 ≢ 10 → get_or bs i 0 ≢ 32 → gaps (drop i bs) ≡ gaps (drop (i + 1) bs)
unfolding gaps
gaps_other bs i l e f = rw (drop_more bs i 0 l, ne_eqb _ _ e, ne_eqb _ _ f) refl

pub gaps_none : (bs : List ℕ) (i : ℕ) → length bs ≤ i → gaps (drop i bs) ≡ 0
unfolding gaps
gaps_none bs i l = rw (drop_all i bs l) refl
