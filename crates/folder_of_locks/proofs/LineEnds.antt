-- The last line of a text.
use Rattle.std.proofs.Common.{◌≡◌, ◌∙◌, ◌+◌, ◌-◌, ◌<◌, ◌≤◌, inl, inr, ℕ, zero, suc, false, eqb, List, [], ◌∷◌, ◌++◌, length, take, drop, refl, sym, ap, subst, arith, length-append}
use Rattle.std.proofs.lemmas.List.{take-append-le, take-append-drop}
use Rattle.std.proofs.Math.Seq.{take-append_seam}
use Rattle.journal.specs.Recovery.{has_line_end}
use Rattle.segment_files.specs.RemarkLaws.{AreLines, IsOneLine}

-- bytes that are not none
pub some_bytes : (n : ℕ) → eqb n 0 ≡ false → 0 < n
some_bytes zero e = absurd cc
some_bytes (suc n) e = omega arith

drop_before : (n : ℕ) (xs ys : List ℕ) → n ≤ length xs → drop n (xs ++ ys) ≡ drop n xs ++ ys
drop_before zero xs ys le = refl
drop_before (suc n) [] ys le = absurd (omega (arith, le))
drop_before (suc n) (x ∷ xs) ys le = drop_before n xs ys (omega (arith, le))

-- a text that ends with a line, cut before its last line
pub record IsCutLast (front : List ℕ) (start : ℕ) : Type 0 where
  pub parts : front ≡ take start front ++ drop start front
  pub before : AreLines (take start front)
  pub last : IsOneLine (drop start front)

cut_last : (z : List ℕ) (start : ℕ) → start ≤ length z → AreLines (take start z) → has_line_end (drop start z) ≡ false → IsCutLast (z ++ 10 ∷ []) start
cut_last z start within lines none = record {
  parts = sym (take-append-drop start (z ++ 10 ∷ []));
  before = subst AreLines (sym (take-append-le start z (10 ∷ []) within)) lines;
  last = (drop start z, drop_before start z (10 ∷ []) within, none);
}

pub last_cut : (front : List ℕ) (start : ℕ) → AreLines front → 0 < length front → start ≤ length (take (length front - 1) front) → AreLines (take start (take (length front - 1) front)) → has_line_end (drop start (take (length front - 1) front)) ≡ false → IsCutLast front start
last_cut front start (inl none) some within lines half = let zero_long : length front ≡ 0 = ap length none in absurd (omega (arith, zero_long, some))
last_cut front start (inr ended) some within lines half =
    let z : List ℕ = ended.0 in
    let long : length front - 1 ≡ length z = let l : length front ≡ length z + 1 = ap length ended.1 ∙ length-append z (10 ∷ []) in omega (arith, l) in
    let init : take (length front - 1) front ≡ z = ap (λ (n : ℕ). take n front) long ∙ (ap (take (length z)) ended.1 ∙ take-append_seam z (10 ∷ [])) in
    subst (λ (u : List ℕ). IsCutLast u start) (sym ended.1)
    (cut_last z start (subst (λ (u : List ℕ). start ≤ length u) init within) (subst (λ (u : List ℕ). AreLines (take start u)) init lines) (subst (λ (u : List ℕ). has_line_end (drop start u) ≡ false) init half))
