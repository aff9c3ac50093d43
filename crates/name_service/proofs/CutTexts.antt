-- Whole lines at the front of texts.
use Rattle.std.proofs.Common.{◌≡◌, ℕ, ◌+◌, eqb, Bool, true, false, List, [], ◌∷◌, ◌++◌, length, ◌⊎◌, inl, inr, refl, sym, ap, subst, ◌∙◌, append_assoc, append-nil, length-append, arith}
use Rattle.std.specs.Prelude.{◌||◌}
use Rattle.std.proofs.lemmas.List.{append_cancel_left}
use Rattle.std.proofs.lemmas.List.Folds.{list_any-append}
use Rattle.std.specs.List.{list_any}
use Rattle.segment_files.specs.Remarks.{remark_of}
use Rattle.segment_files.specs.RemarkLaws.{IsOneLine, AreLines}
use Rattle.segment_files.proofs.TornLines.{split_by, first_within, not_none, rest_ends}
use Rattle.ring_service.specs.Recovered.{IsPrefix}
use Rattle.name_service.specs.NamesKept.{EndsWithin}
use Rattle.name_service.proofs.PlainNotes.{ArePlain}

-- what follows in whole lines is whole lines
pub lines_after : (a b : List ℕ) → AreLines (a ++ b) → AreLines b
lines_after a [] w = inl refl
lines_after a (b ∷ m) (inl e) = absurd (not_none a b m e)
lines_after a (b ∷ m) (inr e) = inr (rest_ends e.0 a b m (sym e.1))

pub nothing_first : (xs ys : List ℕ) → xs ++ ys ≡ [] → xs ≡ []
nothing_first [] ys e = refl
nothing_first (x ∷ xs) ys e = absurd (not_none [] x (xs ++ ys) e)

-- the text has the first of two texts, and lines at the front of the second
pub record HasFirst (a b text : List ℕ) : Type 0 where
  pub rest : List ℕ
  pub is : text ≡ a ++ rest
  pub lines : AreLines rest
  pub front : IsPrefix rest b

-- whole lines at the front of two texts end within the first of these, or have it
pub front_of_both : (a b text : List ℕ) → AreLines text → IsPrefix text (a ++ b) → EndsWithin a text ⊎ HasFirst a b text
front_of_both a b text lines p = by (split_by text p.0 a b (sym p.1))
  where
    by : ((m : List ℕ) × (text ≡ a ++ m)) ⊎ ((x : ℕ) × (m : List ℕ) × (a ≡ text ++ x ∷ m) × ((x ∷ m) ++ b ≡ p.0)) → EndsWithin a text ⊎ HasFirst a b text
    by (inl h) = inr (record {
      rest = h.0;
      is = h.1;
      lines = lines_after a h.0 (subst (λ (u : List ℕ). AreLines u) h.1 lines);
      front = (p.0, append_cancel_left a b (h.0 ++ p.0) (p.1 ∙ (ap (λ (u : List ℕ). u ++ p.0) h.1 ∙ append_assoc a h.0 p.0)));
    })
    by (inr h) = inl (h.0, h.1, h.2)

-- ---- one line

-- no whole line is within it
pub none_within : (line text : List ℕ) → IsOneLine line → AreLines text → EndsWithin line text → text ≡ []
none_within line text l (inl e) w = e
none_within line text l (inr e) w =
    let y = first_within l.0 [] e.0 (w.0 ∷ w.1) l.2 (sym l.1 ∙ (w.2 ∙ ap (λ (u : List ℕ). u ++ w.0 ∷ w.1) e.1)) in
    let more : text ≡ line ++ y.0 = e.1 ∙ (y.1 ∙ ap (λ (u : List ℕ). u ++ y.0) (sym l.1)) in
    let longer : length text ≡ length line + length y.0 = ap (λ (u : List ℕ). length u) more ∙ length-append line y.0 in
    let shorter : length line ≡ length text + length (w.0 ∷ w.1) = ap (λ (u : List ℕ). length u) w.2 ∙ length-append text (w.0 ∷ w.1) in
    absurd (omega (arith, longer, shorter))

-- whole lines at the front of it are none, or it
pub none_or_whole : (line text : List ℕ) → IsOneLine line → AreLines text → IsPrefix text line → (text ≡ []) ⊎ (text ≡ line)
none_or_whole line text l lines p = by p.0 p.1
  where
    by : (more : List ℕ) → line ≡ text ++ more → (text ≡ []) ⊎ (text ≡ line)
    by [] e = inr (sym (e ∙ append-nil text))
    by (b ∷ m) e = inl (none_within line text l lines (b, m, e))

pub remark_is_line : (line : List ℕ) → IsOneLine line → IsOneLine (remark_of line)
remark_is_line line l = (35 ∷ 32 ∷ l.0, ap (λ (u : List ℕ). remark_of u) l.1, l.2)

-- ---- lines with no #

first_false : (a b : Bool) → (a || b) ≡ false → a ≡ false
first_false true b e = absurd cc
first_false false b e = refl

pub plain_front : (whole text : List ℕ) → ArePlain whole → AreLines text → IsPrefix text whole → ArePlain text
plain_front whole text p lines f = record {
  lines = lines;
  hashless = record {
    none = first_false (list_any (λ b. eqb b 35) text) (list_any (λ b. eqb b 35) f.0) (sym (list_any-append (λ b. eqb b 35) text f.0) ∙ (ap (λ (u : List ℕ). list_any (λ b. eqb b 35) u) (sym f.1) ∙ p.hashless.none));
  };
}
