-- Of the front of a text, cut anywhere, the front of what is kept of the text is kept.
use Rattle.std.proofs.Common.{◌≡◌, ℕ, ◌<◌, Bool, true, false, cond, eqb, List, [], ◌∷◌, ◌++◌, length, refl, sym, ap, ◌∙◌, append_assoc, arith}
use Rattle.std.specs.Prelude.{not}
use Rattle.std.specs.List.{filter, flat_map}
use Rattle.std.proofs.lemmas.List.{append-nil}
use Rattle.segment_files.specs.Remarks.{with_byte, lines_in, is_remark, without_remarks}

-- the lines are the first ones, and the last of them may be cut
abbrev AreFirst : List (List ℕ) → List (List ℕ) → Type 0
AreFirst [] others = Unit {0}
AreFirst (line ∷ []) [] = ⊥
AreFirst (line ∷ []) (other ∷ others) = (0 < length line) × (more : List ℕ) × (other ≡ line ++ more)
AreFirst (line ∷ next ∷ lines) [] = ⊥
AreFirst (line ∷ next ∷ lines) (other ∷ others) = (line ≡ other) × AreFirst (next ∷ lines) others

ended : (b : ℕ) (lines others : List (List ℕ)) → AreFirst lines others → AreFirst ((b ∷ []) ∷ lines) ((b ∷ []) ∷ others)
ended b [] others f = (omega arith, [], refl)
ended b (line ∷ lines) others f = (refl, f)

longer : (b : ℕ) (lines others : List (List ℕ)) → AreFirst lines others → AreFirst (with_byte b lines) (with_byte b others)
longer b [] [] f = (omega arith, [], refl)
longer b [] (other ∷ others) f = (omega arith, other, refl)
longer b (line ∷ []) [] f = absurd f
longer b (line ∷ []) (other ∷ others) f = (omega arith, f.1, ap (λ (u : List ℕ). b ∷ u) f.2)
longer b (line ∷ next ∷ lines) [] f = absurd f
longer b (line ∷ next ∷ lines) (other ∷ others) f = (ap (λ (u : List ℕ). b ∷ u) f.0, f.1)

either : (v : Bool) (b : ℕ) (lines others : List (List ℕ)) → AreFirst lines others →
    AreFirst (cond v ((b ∷ []) ∷ lines) (with_byte b lines)) (cond v ((b ∷ []) ∷ others) (with_byte b others))
either true b lines others f = ended b lines others f
either false b lines others f = longer b lines others f

are_first : (front back : List ℕ) → AreFirst (lines_in front) (lines_in (front ++ back))
unfolding lines_in
are_first [] back = tt
are_first (b ∷ front) back = either (eqb b 10) b (lines_in front) (lines_in (front ++ back)) (are_first front back)

abbrev kept : List (List ℕ) → List ℕ
kept lines = flat_map (λ (line : List ℕ). line) (filter (λ (line : List ℕ). not (is_remark line)) lines)

abbrev joined : List (List ℕ) → List ℕ
joined lines = flat_map (λ (line : List ℕ). line) lines

cut_line : (v : Bool) (line more : List ℕ) (others : List (List ℕ)) → (x : List ℕ) × (joined (cond (not v) ((line ++ more) ∷ others) others) ≡ joined (cond (not v) (line ∷ []) []) ++ x)
cut_line true line more others = (joined others, refl)
cut_line false line more others = (more ++ joined others, append_assoc line more (joined others) ∙ ap (λ (u : List ℕ). u ++ (more ++ joined others)) (sym (append-nil line)))

whole_line : (v : Bool) (line x : List ℕ) (lines others : List (List ℕ)) → joined others ≡ joined lines ++ x → joined (cond (not v) (line ∷ others) others) ≡ joined (cond (not v) (line ∷ lines) lines) ++ x
whole_line true line x lines others e = e
whole_line false line x lines others e = ap (λ (u : List ℕ). line ++ u) e ∙ sym (append_assoc line (joined lines) x)

abbrev plain : List (List ℕ) → List (List ℕ)
plain lines = filter (λ (line : List ℕ). not (is_remark line)) lines

abbrev IsFront : List (List ℕ) → List (List ℕ) → Type 0
IsFront lines others = (x : List ℕ) × (kept others ≡ kept lines ++ x)

first_cut : (line more other : List ℕ) (others : List (List ℕ)) → 0 < length line → other ≡ line ++ more → IsFront (line ∷ []) (other ∷ others)
first_cut [] more other others some e = absurd (omega (arith, some))
first_cut (b ∷ bs) more other others some e =
    let c = cut_line (eqb b 35) (b ∷ bs) more (plain others) in
    (c.0, ap (λ (u : List ℕ). kept (u ∷ others)) e ∙ c.1)

kept_first : (lines others : List (List ℕ)) → AreFirst lines others → IsFront lines others
kept_first [] others f = (kept others, refl)
kept_first (line ∷ []) [] f = absurd f
kept_first (line ∷ []) (other ∷ others) f = first_cut line f.1 other others f.0 f.2
kept_first (line ∷ next ∷ lines) [] f = absurd f
kept_first (line ∷ next ∷ lines) (other ∷ others) f =
    let more = kept_first (next ∷ lines) others f.1 in
    (more.0, ap (λ (u : List ℕ). kept (u ∷ others)) (sym f.0) ∙ whole_line (is_remark line) line more.0 (plain (next ∷ lines)) (plain others) more.1)

pub front_without : (front back : List ℕ) → (x : List ℕ) × (without_remarks (front ++ back) ≡ without_remarks front ++ x)
unfolding without_remarks
front_without front back = kept_first (lines_in front) (lines_in (front ++ back)) (are_first front back)
