-- Lines that can be counted.
use Rattle.std.proofs.Common.{◌≡◌, ℕ, ◌+◌, ◌-◌, ◌^◌, ◌<◌, ◌≤◌, List, ◌∷◌, length, length-append, map, min, sym, ap, ◌∙◌, arith}
use Rattle.std.specs.List.{flat_map, sum_by}
use Rattle.std.proofs.lemmas.List.Concat.{length-flat_map}
use Rattle.saved_history.specs.Content.{Block}
use Rattle.std.proofs.lemmas.List.{length-map}
use Rattle.ring_check.specs.Lines.{EventLine, EndLine, SurveyLine, block_lines}
use Rattle.segment_files.specs.Sums.{capped}

less : (n m k : ℕ) → min n m + 1 < m → n + 2 < m + 1
less n m k lt = omega arith

pub few_lines : (ks : List Block) (n : ℕ) → n ≡ capped (sum_by (λ (k : Block). length (block_lines k)) ks) → n + 1 < 2 ^ 64 - 1 → length (flat_map block_lines ks) + 2 < 2 ^ 64
few_lines ks n is lt =
    let all = length-flat_map block_lines ks in
    let one = less (sum_by (λ (k : Block). length (block_lines k)) ks) (2 ^ 64 - 1) n (omega (arith, is, lt)) in
    omega (arith, one, all)

thrice : (l e s m : ℕ) → min (min (min (l + 3) m + e) m + s) m ≡ min (l + (2 + (e + (1 + s)))) m
thrice l e s m = omega arith

pub size_is : (k : Block) → length (block_lines k) ≡ 2 + (length k.events + (1 + length k.surveys))
size_is k =
    let events = length-map k.events EventLine in
    let surveys = length-map k.surveys SurveyLine in
    let both = length-append (map EventLine k.events) (EndLine k.events_said ∷ map SurveyLine k.surveys) in
    omega (arith, events, surveys, both)

pub counted : (l : ℕ) (k : Block) → capped (capped (capped (l + 3) + length k.events) + length k.surveys) ≡ capped (l + length (block_lines k))
counted l k = thrice l (length k.events) (length k.surveys) (2 ^ 64 - 1) ∙ ap (λ (n : ℕ). capped (l + n)) (sym (size_is k))
