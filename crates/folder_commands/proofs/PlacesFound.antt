-- The last place among some lines of a text.
use Rattle.std.proofs.Common.{◌≡◌, ℕ, zero, suc, ◌+◌, ◌-◌, ◌<◌, ◌≤◌, Bool, true, false, cond, eqb, List, [], ◌∷◌, length, take, refl, sym, ap, subst, ◌∙◌, arith}
use Rattle.std.proofs.lemmas.List.{take_all}
use Rattle.segment_files.specs.Remarks.{lines_in, with_byte}
use Rattle.tool_parts.specs.LastPlace.{tells_place, place_after, last_place}

-- ---- the loop

pub found_none : (n : ℕ) (found text : List ℕ) → length text ≡ 0 → place_after found (take n (lines_in text)) ≡ found
unfolding lines_in place_after
found_none zero found [] e = refl
found_none (suc n) found [] e = refl
found_none n found (b ∷ bs) e = absurd (omega (arith, e))

pub found_all : (n : ℕ) (found text : List ℕ) → n ≡ 0 → place_after found (take n (lines_in text)) ≡ found
unfolding place_after
found_all zero found text e = refl
found_all (suc n) found text e = absurd (omega (arith, e))

found_first : (n : ℕ) (found line : List ℕ) (lines : List (List ℕ)) → 0 < n
    → place_after found (take n (line ∷ lines)) ≡ place_after (cond (tells_place line) line found) (take (n - 1) lines)
unfolding place_after
found_first zero found line lines some = absurd (omega (arith, some))
found_first (suc n) found line lines some = let e : suc n - 1 ≡ n = omega arith in rw e refl

-- one line more
pub goes_on : (many counter : ℕ) (found line rest after end : List ℕ) → counter < many → lines_in rest ≡ line ∷ lines_in after
    → place_after found (take (many - counter) (lines_in rest)) ≡ end
    → place_after (cond (tells_place line) line found) (take (many - (counter + 1)) (lines_in after)) ≡ end
goes_on many counter found line rest after end lt split before =
    let first = found_first (many - counter) found line (lines_in after) (omega (arith, lt)) in
    let n : many - counter - 1 ≡ many - (counter + 1) = omega arith in
    let all : place_after found (take (many - counter) (line ∷ lines_in after)) ≡ end = subst (λ (ls : List (List ℕ)). place_after found (take (many - counter) ls) ≡ end) split before in
    subst (λ (k : ℕ). place_after (cond (tells_place line) line found) (take k (lines_in after)) ≡ end) n (sym first ∙ all)

-- ---- all lines

with_few : (b : ℕ) (lines : List (List ℕ)) → length (with_byte b lines) ≤ suc (length lines)
with_few b [] = omega arith
with_few b (line ∷ lines) = omega arith

either_few : (v : Bool) (b : ℕ) (bs : List ℕ) → length (lines_in bs) ≤ length bs → length (cond v ((b ∷ []) ∷ lines_in bs) (with_byte b (lines_in bs))) ≤ suc (length bs)
either_few true b bs few = omega (arith, few)
either_few false b bs few = let one = with_few b (lines_in bs) in omega (arith, few, one)

-- a text has no more lines than bytes
lines_few : (text : List ℕ) → length (lines_in text) ≤ length text
unfolding lines_in
lines_few [] = omega arith
lines_few (b ∷ bs) = either_few (eqb b 10) b bs (lines_few bs)

pub place_in_all : (text : List ℕ) → last_place (take (length text) (lines_in text)) ≡ last_place (lines_in text)
place_in_all text = ap last_place (take_all (length text) (lines_in text) (lines_few text))
